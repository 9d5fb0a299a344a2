-- The entries of a run that are written are read again: firings, and the end with its marks.
use Rattle.std.proofs.Common.{◌≡◌, ℕ, suc, ◌+◌, ◌≤◌, Bool, true, false, cond, List, [], ◌∷◌, ◌++◌, length, refl, sym, ap, ◌∙◌, subst, append_assoc, arith}
use Rattle.std.specs.Prelude.{Option, Some, None, All, ⊤, codes, flat_map, nat_lt}
use Rattle.std.specs.List.{AllByRecursion, prefix_len}
use Rattle.std.proofs.lemmas.Bool.Decides.{nat_tests}
use Rattle.std.proofs.lemmas.List.{append-nil}
use Rattle.std.proofs.lemmas.List.Elements.{recursion_from_All}
use Rattle.rn_value.specs.Names.{AreNamed}
use Rattle.rn_value.specs.declared.value.Value.{Value}
use Rattle.rn_model.specs.declared.system.System.{System}
use Rattle.rn_model.specs.declared.binding.Binding.{Binding}
use Rattle.rn_model.specs.declared.log.Entry.{Entry}
use Rattle.rn_model.specs.declared.log.Entry.TheVariants.{Fire, End}
use Rattle.rn_model.specs.declared.log.FaultKind.{FaultKind}
use Rattle.rn_model.specs.declared.log.FaultKind.TheVariants.{Action, Instances}
use Rattle.rn_model.specs.declared.log.MarkLine.{MarkLine}
use Rattle.rn_model.specs.declared.log.Reason.{Reason}
use Rattle.rn_model.specs.Enabling.{Enabled}
use Rattle.rn_model.specs.Good.{Good}
use Rattle.rn_model.specs.Markings.{Marking}
use Rattle.rn_lines.specs.LineText.{IsLine, LineSaid, ending_text}
use Rattle.rn_lines.specs.declared.lines.Ending.{Ending}
use Rattle.rn_lines.specs.declared.lines.Ending.TheVariants as Ends
use Rattle.rn_lookup.specs.declared.refusal.Refusal.TheVariants.{Name}
use Rattle.rn_lookup.specs.Found.{node_is_called}
use Rattle.rn_record.specs.RecordText.{binding_text, end_text, entry_text, fault_line, firing_lead, mark_text, names_after, printed_line}
use Rattle.rn_record.specs.Writable.{HasEnd, HasLines}
use Rattle.rn_record_reader.specs.Bindings.{told_binding}
use Rattle.rn_record_reader.specs.Called.{count_of_called, nodes_fault, stop_fault}
use Rattle.rn_record_reader.specs.Firings.{FiringRead, firing_by, firing_read, made_with, with_prints}
use Rattle.rn_record_reader.specs.Lines.{lines_in}
use Rattle.rn_record_reader.specs.Marks.{marks_from}
use Rattle.rn_record_reader.specs.Nodes.{Placed, Stop}
use Rattle.rn_record_reader.specs.Prints.{PrintsEnd, prints_from}
use Rattle.rn_record_reader.specs.Readable.{HasReadableValues, IsReadable, IsReadableEnd}
use Rattle.rn_record_reader.specs.Runs.{Opening, Tells, Verdict, end_read, fault_by, fault_read, opening_of, with_marks}
use Rattle.rn_record_reader.specs.declared.role.Role.TheVariants as Roles
use Rattle.rn_record_reader.proofs.SpelledNodes.{names_for}
use Rattle.rn_record_reader.proofs.WrittenBindings.{nets_of}
use Rattle.rn_record_reader.proofs.WrittenFirings.{BindingRead, IsAt, all_few, all_real, binding_read, names_same}
use Rattle.rn_record_reader.proofs.WrittenLines.{line_then}
use Rattle.rn_record_reader.proofs.WrittenMarks.{IsRightMark, Remain, marks_read}
use Rattle.rn_record_reader.proofs.WrittenPrints.{prints_read}

all_pass : {X : Type 0} (p : X → Bool) (xs : List X) → AllByRecursion (λ x. p x ≡ true) xs → prefix_len p xs ≡ length xs
all_pass p [] are = refl
all_pass p (x ∷ xs) are =
    let next : 1 + length xs ≡ suc (length xs) = omega arith in
    ap (λ b. cond b (1 + prefix_len p xs) 0) are.0 ∙ ap (λ n. 1 + n) (all_pass p xs are.1) ∙ next

-- nothing is wrong with nodes that name what is there
no_fault : (system : System) (all : List ℕ) (nodes : List Placed) (left : List (Option LineSaid)) →
    AllByRecursion (λ x. node_is_called system all x.said ≡ true) nodes →
    nodes_fault system all (nodes, Stop.whole left) ≡ None
no_fault system all nodes left called =
    let count : count_of_called system all nodes ≡ length nodes = all_pass (λ x. node_is_called system all x.said) nodes called in
    let not_less : nat_lt (count_of_called system all nodes) (length nodes) ≡ false = grind (arith, nat_tests) in
    ap (λ b. cond b (Some (record { before = count_of_called system all nodes; refusal = Name })) (stop_fault system all (length nodes) (Stop.whole left))) not_less

-- where a fault ends a run at a marking, its binding is enabled there
abbrev pub EndsAs : System → ℕ → Reason → Marking → Type 0
EndsAs system depth (Reason.Fault cause b) m = Enabled system m b depth
EndsAs system depth _ m = ⊤

-- What lines tell between entries; and they begin with no printed value.
pub record RunTold (format : ℕ) (system : System) (made : List ℕ) (step line : ℕ) (lines : List (Option LineSaid)) (v : Verdict) : Type 0 where
  pub tells : Tells format system made step line lines v
  pub quiet : (all : List ℕ) (k worker : ℕ) → prints_from system all k worker lines ≡ ([], PrintsEnd.over lines)

module _ (system : System) (m : Marking) (made : List ℕ) (depth : ℕ) (good : Good system) (at : IsAt system m made) where
  abbrev names : List (List ℕ)
  names = names_for system made

  -- One firing.
  module _ (step worker : ℕ) (low : 1 ≤ worker) (high : worker ≤ 64) (b : Binding) (outs : List Value)
      (enabled : Enabled system m b depth) (lines : HasLines system names b) (readable : HasReadableValues b)
      (printable : AllByRecursion IsReadable outs) (named : All (AreNamed (names_after system names b)) outs) where
    abbrev all : List ℕ
    all = made ++ nets_of system b.nodes

    abbrev fired : Entry
    fired = Fire worker b outs

    abbrev printed_text : List ℕ
    printed_text = flat_map (printed_line (names_for system all) (firing_lead step worker)) outs

    entry_cut : (rest : List ℕ) → entry_text system names step fired ++ rest
        ≡ binding_text system names (firing_lead step worker) b ++ (printed_text ++ rest)
    entry_cut rest =
        append_assoc (binding_text system names (firing_lead step worker) b)
        (flat_map (printed_line (names_after system names b) (firing_lead step worker)) outs) rest
        ∙ ap (λ ns. binding_text system names (firing_lead step worker) b ++ (flat_map (printed_line ns (firing_lead step worker)) outs ++ rest))
        (names_same system m made depth good at b enabled lines)

    read : (rest : List ℕ) → BindingRead system m made depth good at b enabled lines readable (Roles.Firing step worker) (printed_text ++ rest)
    read rest = binding_read system m made depth good at b enabled lines readable (Roles.Firing step worker) (low, high) (printed_text ++ rest)

    pub count_of : (rest : List ℕ) → ℕ
    count_of rest = length (read rest).nodes + length outs

    pub opens : (rest : List ℕ) → opening_of (lines_in (entry_text system names step fired ++ rest)) ≡ Opening.firing worker
    opens rest = ap (λ t. opening_of (lines_in t)) (entry_cut rest) ∙ ap opening_of (read rest).first

    pub begins_quiet : (rest others : List ℕ) (k other : ℕ) →
        prints_from system others k other (lines_in (entry_text system names step fired ++ rest))
        ≡ ([], PrintsEnd.over (lines_in (entry_text system names step fired ++ rest)))
    begins_quiet rest others k other =
        let first = ap lines_in (entry_cut rest) ∙ (read rest).first in
        subst (λ ls. prints_from system others k other ls ≡ ([], PrintsEnd.over ls)) (sym first) refl

    named_all : AllByRecursion (AreNamed (names_for system all)) outs
    named_all =
        subst (λ ns. AllByRecursion (AreNamed ns) outs) (names_same system m made depth good at b enabled lines)
        (recursion_from_All (AreNamed (names_after system names b)) outs named)

    pub firing_told : (rest : List ℕ) → prints_from system all step worker (lines_in rest) ≡ ([], PrintsEnd.over (lines_in rest)) →
        firing_read system made step worker (lines_in (entry_text system names step fired ++ rest))
        ≡ FiringRead.fired fired all (count_of rest) (lines_in rest)
    unfolding count_of
    firing_told rest quiet =
        let r = read rest in
        let left : List (Option LineSaid) = lines_in (printed_text ++ rest) in
        let whole : List Placed × Stop = (r.nodes, Stop.whole left) in
        ap (λ t. firing_read system made step worker (lines_in t)) (entry_cut rest)
        ∙ ap (λ x. firing_by system made (made_with system made x) step worker x (nodes_fault system (made_with system made x) x)) r.whole
        ∙ ap (λ ns. firing_by system made ns step worker whole (nodes_fault system ns whole)) r.nets
        ∙ ap (firing_by system made all step worker whole) (no_fault system all r.nodes left r.called)
        ∙ ap (with_prints system made all worker r.nodes)
        (prints_read system good all (all_real system m made depth good at b enabled lines) (all_few system m made depth good at b enabled lines)
        step worker low high outs printable named_all rest quiet)
        ∙ ap (λ t. FiringRead.fired (Fire worker t outs) all (length r.nodes + length outs) (lines_in rest)) r.told

  -- The end.
  module _ (format step line : ℕ) (marks : List MarkLine) (right : AllByRecursion (IsRightMark system good made at.real at.few) marks)
      (enough : Remain format 0 marks) where
    abbrev marks_text : List ℕ
    marks_text = flat_map (mark_text format system names) marks

    abbrev Ended : List ℕ → Reason → Type 0
    Ended text reason = RunTold format system made step line (lines_in text) (Verdict.tells (End reason ∷ []) marks)

    ended : (e : Ending) (rest : List ℕ) (reason : Reason) →
        end_read format system made (line + 1) e (lines_in rest) ≡ Verdict.tells (End reason ∷ []) marks → Ended (ending_text e ++ 10 ∷ rest) reason
    ended e rest reason is =
        subst (λ ls. RunTold format system made step line ls (Verdict.tells (End reason ∷ []) marks)) (sym (line_then IsLine.ends rest))
        (subst (RunTold format system made step line (Some (LineSaid.ends e) ∷ lines_in rest)) is
        (record { tells = Tells.ended refl; quiet = λ all k worker. refl }))

    marks_told : (reason : Reason) (k : ℕ) → with_marks reason k (marks_from format system made 0 (lines_in marks_text)) ≡ Verdict.tells (End reason ∷ []) marks
    marks_told reason k = ap (with_marks reason k) (marks_read system good made at.real at.few format 0 marks right enough)

    fault_told : (cause : FaultKind) (k : ℕ) (b : Binding) → Enabled system m b depth → HasLines system names b → HasReadableValues b →
        fault_read format system made k cause (lines_in (binding_text system names (codes "! ") b ++ marks_text))
        ≡ Verdict.tells (End (Reason.Fault cause b) ∷ []) marks
    fault_told cause k b enabled lines readable =
        let r = binding_read system m made depth good at b enabled lines readable Roles.Fault tt marks_text in
        let all : List ℕ = made ++ nets_of system b.nodes in
        let left : List (Option LineSaid) = lines_in marks_text in
        let whole : List Placed × Stop = (r.nodes, Stop.whole left) in
        ap (λ x. fault_by format system made k cause x (nodes_fault system (made_with system made x) x)) r.whole
        ∙ ap (λ ns. fault_by format system made k cause whole (nodes_fault system ns whole)) r.nets
        ∙ ap (fault_by format system made k cause whole) (no_fault system all r.nodes left r.called)
        ∙ marks_told (Reason.Fault cause (told_binding system (length made) r.nodes)) (k + length r.nodes)
        ∙ ap (λ t. Verdict.tells (End (Reason.Fault cause t) ∷ []) marks) r.told

    fault_cut : (head text : List ℕ) → ((head ++ text) ++ []) ++ marks_text ≡ head ++ (text ++ marks_text)
    fault_cut head text = ap (λ t. t ++ marks_text) (append-nil (head ++ text)) ∙ append_assoc head text marks_text

    pub end_told : (reason : Reason) → EndsAs system depth reason m → HasEnd system names reason → IsReadableEnd reason →
        Ended ((end_text system names reason ++ []) ++ marks_text) reason
    end_told Reason.Dead enabled has readable = ended Ends.Dead marks_text Reason.Dead (marks_told Reason.Dead (line + 1))
    end_told Reason.Steps enabled has readable = ended Ends.Steps marks_text Reason.Steps (marks_told Reason.Steps (line + 1))
    end_told Reason.Memory enabled has readable = ended Ends.Memory marks_text Reason.Memory (marks_told Reason.Memory (line + 1))
    end_told (Reason.Fault Action b) enabled has readable =
        let text : List ℕ = binding_text system names (codes "! ") b in
        subst (λ t. Ended t (Reason.Fault Action b)) (sym (fault_cut (fault_line Action) text))
        (ended Ends.ActionFault (text ++ marks_text) (Reason.Fault Action b) (fault_told Action (line + 1) b enabled has readable))
    end_told (Reason.Fault Instances b) enabled has readable =
        let text : List ℕ = binding_text system names (codes "! ") b in
        subst (λ t. Ended t (Reason.Fault Instances b)) (sym (fault_cut (fault_line Instances) text))
        (ended Ends.InstancesFault (text ++ marks_text) (Reason.Fault Instances b) (fault_told Instances (line + 1) b enabled has readable))
