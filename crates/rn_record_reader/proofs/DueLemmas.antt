-- The paths that are due after a way.
use Rattle.std.proofs.Common.{◌≡◌, ℕ, zero, suc, ◌+◌, ◌-◌, ◌<◌, ◌≤◌, Bool, false, cond, List, [], ◌∷◌, ◌++◌, drop, sym, ap, ◌∙◌, append_assoc, arith}
use Rattle.std.proofs.lemmas.List.{append-nil, map-append}
use Rattle.rn_record_reader.specs.Paths.{children_from}
use Rattle.rn_record_reader.specs.link.DueAhead.{numbers, later}
use Rattle.rn_record_reader.specs.declared.level.Level.{Level}

-- with one more step
later_from : (path : List ℕ) (levels : List Level) (level : Level) →
    later path (levels ++ level ∷ [])
    ≡ children_from (path ++ numbers levels) (level.index + 1) level.after ++ later path levels
later_from path [] level =
    ap (λ p. children_from p (level.index + 1) level.after) (sym (append-nil path))
    ∙ sym (append-nil (children_from (path ++ []) (level.index + 1) level.after))
later_from path (k ∷ levels) level =
    let above = children_from path (k.index + 1) k.after in
    let here : List ℕ → List (List ℕ) = λ p. children_from p (level.index + 1) level.after in
    ap (λ ps. ps ++ above) (later_from (path ++ k.index ∷ []) levels level)
    ∙ append_assoc (here ((path ++ k.index ∷ []) ++ numbers levels)) (later (path ++ k.index ∷ []) levels) above
    ∙ ap (λ p. here p ++ (later (path ++ k.index ∷ []) levels ++ above)) (append_assoc path (k.index ∷ []) (numbers levels))

pub later_more : (levels : List Level) (level : Level) →
    later [] (levels ++ level ∷ [])
    ≡ children_from (numbers levels) (level.index + 1) level.after ++ later [] levels
later_more = later_from []

-- the first of paths that go on
first_child : (path : List ℕ) (i a : ℕ) → 0 < a →
    children_from path i a ≡ (path ++ i ∷ []) ∷ children_from path (i + 1) (a - 1)
first_child path i zero some = absurd (let no : ⊥ = omega arith in no)
first_child path i (suc a) some =
    let less : a ≡ suc a - 1 = omega arith in
    ap (λ k. (path ++ i ∷ []) ∷ children_from path (i + 1) k) less

-- after one more step with these numbers
one_more : (levels : List Level) (next : Level) (i a : ℕ) → 0 < a → next.index ≡ i → next.after ≡ a - 1 →
    numbers (levels ++ next ∷ []) ∷ later [] (levels ++ next ∷ [])
    ≡ children_from (numbers levels) i a ++ later [] levels
one_more levels next i a some index after =
    let path = numbers levels in
    let rest = later [] levels in
    ap (λ p. p ∷ later [] (levels ++ next ∷ [])) (map-append (λ level. level.index) levels (next ∷ []))
    ∙ ap (λ ps. (path ++ next.index ∷ []) ∷ ps) (later_more levels next)
    ∙ ap (λ k. (path ++ k ∷ []) ∷ (children_from path (k + 1) next.after ++ rest)) index
    ∙ ap (λ k. (path ++ i ∷ []) ∷ (children_from path (i + 1) k ++ rest)) after
    ∙ ap (λ ps. ps ++ rest) (sym (first_child path i a some))

-- a node with downlinks is read, where paths are due
pub pushed : (old new : List Level) (next : Level) (downlinks : ℕ) (before after : Bool) → 0 < downlinks →
    next.index ≡ 0 → next.after ≡ downlinks - 1 → new ≡ old ++ next ∷ [] → before ≡ false → after ≡ before →
    cond after [] (numbers new ∷ later [] new)
    ≡ children_from (numbers old) 0 downlinks ++ drop 1 (cond before [] (numbers old ∷ later [] old))
pushed old new next downlinks before after some index count is due still =
    ap (λ d. cond d [] (numbers new ∷ later [] new)) (still ∙ due)
    ∙ ap (λ ls. numbers ls ∷ later [] ls) is
    ∙ one_more old next 0 downlinks some index count
    ∙ ap (λ d. children_from (numbers old) 0 downlinks ++ drop 1 (cond d [] (numbers old ∷ later [] old))) (sym due)

-- the last step has further ones beside it
pub advanced : (old popped new : List Level) (level next : Level) (after : Bool) → old ≡ popped ++ level ∷ [] →
    0 < level.after → next.index ≡ level.index + 1 → next.after ≡ level.after - 1 →
    new ≡ popped ++ next ∷ [] → after ≡ false →
    cond after [] (numbers new ∷ later [] new) ≡ later [] old
advanced old popped new level next after was some index count is due =
    ap (λ d. cond d [] (numbers new ∷ later [] new)) due
    ∙ ap (λ ls. numbers ls ∷ later [] ls) is
    ∙ one_more popped next (level.index + 1) level.after some index count
    ∙ sym (later_more popped level)
    ∙ ap (later []) (sym was)

-- the last step has none
pub popped_rest : (old popped : List Level) (level : Level) → old ≡ popped ++ level ∷ [] →
    level.after ≤ 0 → later [] popped ≡ later [] old
popped_rest old popped level was none =
    let zero_after : level.after ≡ 0 = omega (arith, none) in
    sym (ap (later []) was ∙ later_more popped level
    ∙ ap (λ k. children_from (numbers popped) (level.index + 1) k ++ later [] popped) zero_after)
