-- The kinds of the tokens of the workload text, and the plain form that it spells. Of each part the
-- kinds stand before those that follow it, and the form is that of a stream of tokens, the first of
-- which begins the part: it has their spots.
use Rattle.std.proofs.Common.{ℕ, ℤ, pos, List, [], ◌∷◌, codes, Some, None}
use Rattle.rn_notation.specs.declared.token.Token.{Token}
use Rattle.rn_notation.specs.declared.token.TokenKind.{TokenKind}
use Rattle.rn_notation.specs.declared.token.TokenKind.TheVariants.{Name, Word, Number, Sign}
use Rattle.rn_notation.specs.declared.sign.TheConstants as sign
use Rattle.rn_notation.specs.declared.word.TheConstants as word
use Rattle.rn_model.specs.declared.expr.OpKind.TheVariants.{Add, Sub}
use Rattle.rn_model.specs.declared.expr.CompareKind.{CompareKind}
use Rattle.rn_model.specs.declared.expr.CompareKind.TheVariants.{Less, Greater}
use Rattle.rn_model.specs.declared.system.ArcKind.TheVariants.{Input, Output}
use Rattle.rn_inscript.specs.declared.exprs.PExpr.{PExpr}
use Rattle.rn_inscript.specs.declared.exprs.PForm.TheVariants as F
use Rattle.rn_inscript.specs.declared.conds.PCond.{PCond}
use Rattle.rn_inscript.specs.declared.conds.PSimple.TheVariants as S
use Rattle.rn_inscript.specs.declared.inscriptions.PName.{PName}
use Rattle.rn_inscript.specs.declared.inscriptions.PInscribed.{PInscribed}
use Rattle.rn_inscript.specs.declared.inscriptions.PInscribed.TheVariants as I
use Rattle.rn_inscript.specs.declared.inscriptions.PInscription.{PInscription}
use Rattle.rn_inscript.specs.Expressions.{at_spot, joined}
use Rattle.rn_inscript.specs.Conditions.{any_of}
use Rattle.rn_inscript.specs.Inscriptions.{name_at}
use Rattle.rn_inscript.specs.Signs.{open_brace, close_brace, open_paren, close_paren, colon, equals, minus, guard_word, new_word}
use Rattle.rn_net.specs.declared.kinds.PKindForm.TheVariants as K
use Rattle.rn_net.specs.declared.constants.PConstForm.TheVariants as C
use Rattle.rn_net.specs.declared.plain.Plain.{Plain}
use Rattle.rn_net.specs.declared.plain.PChannel.{PChannel}
use Rattle.rn_net.specs.declared.plain.PVar.{PVar}
use Rattle.rn_net.specs.declared.plain.PPlace.{PPlace}
use Rattle.rn_net.specs.declared.plain.PTransition.{PTransition}
use Rattle.rn_net.specs.declared.plain.PNet.{PNet}
use Rattle.rn_net.specs.Kinds.{kind_at}
use Rattle.rn_net.specs.Constants.{constant_at}
use Rattle.rn_net.specs.Nets.{channel_of, var_of, place_of, transition_of, plain_net_of, plain_of}
use Rattle.rn_net.specs.Words.{semicolon, net_word, place_word, trans_word, channel_word, var_word, int_word}
use Rattle.rn_gen.proofs.Streams.{past}

abbrev pub Kinds : Type 0
Kinds = List TokenKind

abbrev pub Stream : Type 0
Stream = ℕ → Token

abbrev pub in_word : TokenKind
in_word = Word word.IN

abbrev pub out_word : TokenKind
out_word = Word word.OUT

-- a variable, a whole number, an inscription, and a guard that compares
abbrev pub var_at : Token → List ℕ → PExpr
var_at t text = at_spot t.spot (F.Name text)

abbrev pub int_at : Token → ℕ → PExpr
int_at t n = at_spot t.spot (F.Int (pos n))

abbrev pub named_at : Token → List ℕ → PName
named_at t text = name_at t.spot text

abbrev pub form_at : Token → PInscribed → PInscription
form_at t form = record { form = form; spot = t.spot }

abbrev pub compared : CompareKind → PExpr → PExpr → PCond
compared kind a b = any_of ((S.Compare kind a b ∷ []) ∷ [])

-- `channel go(int);`
unfoldable pub go_kinds : Kinds → Kinds
go_kinds more =
    channel_word ∷ Name (codes "go") ∷ open_paren ∷ int_word ∷ close_paren ∷ semicolon ∷ more

unfoldable pub go_channel : Stream → PChannel
go_channel at = channel_of (named_at (at 1) (codes "go")) (kind_at (at 3).spot K.Int ∷ [])

-- `channel done();`
unfoldable pub done_kinds : Kinds → Kinds
done_kinds more =
    channel_word ∷ Name (codes "done") ∷ open_paren ∷ close_paren ∷ semicolon ∷ more

unfoldable pub done_channel : Stream → PChannel
done_channel at = channel_of (named_at (at 1) (codes "done")) []

-- `var x: int;`
abbrev pub int_var_kinds : List ℕ → Kinds → Kinds
int_var_kinds x more = var_word ∷ Name x ∷ colon ∷ int_word ∷ semicolon ∷ more

abbrev pub int_var : List ℕ → Stream → PVar
int_var x at = var_of (kind_at (at 3).spot K.Int) (named_at (at 1) x)

-- `var x: net;`
abbrev pub net_var_kinds : List ℕ → Kinds → Kinds
net_var_kinds x more = var_word ∷ Name x ∷ colon ∷ net_word ∷ semicolon ∷ more

abbrev pub net_var : List ℕ → Stream → PVar
net_var x at = var_of (kind_at (at 3).spot K.Net) (named_at (at 1) x)

-- `place p: int = z;`
abbrev pub int_place_kinds : List ℕ → ℤ → Kinds → Kinds
int_place_kinds p z more =
    place_word ∷ Name p ∷ colon ∷ int_word ∷ equals ∷ Number z ∷ semicolon ∷ more

abbrev pub int_place : List ℕ → ℤ → Stream → PPlace
int_place p z at =
    place_of (named_at (at 1) p) (kind_at (at 3).spot K.Int)
    (constant_at (at 5).spot (C.Int z) ∷ []) None

-- `place p: net;`
abbrev pub net_place_kinds : List ℕ → Kinds → Kinds
net_place_kinds p more = place_word ∷ Name p ∷ colon ∷ net_word ∷ semicolon ∷ more

abbrev pub net_place : List ℕ → Stream → PPlace
net_place p at = place_of (named_at (at 1) p) (kind_at (at 3).spot K.Net) [] None

-- `in p: x;`
abbrev pub in_kinds : List ℕ → List ℕ → Kinds → Kinds
in_kinds p x more = in_word ∷ Name p ∷ colon ∷ Name x ∷ semicolon ∷ more

abbrev pub in_arc : List ℕ → List ℕ → Stream → PInscription
in_arc p x at = form_at (at 0) (I.Arc Input (named_at (at 1) p) (Some (var_at (at 3) x)))

-- `out p: x;`
abbrev pub out_kinds : List ℕ → List ℕ → Kinds → Kinds
out_kinds p x more = out_word ∷ Name p ∷ colon ∷ Name x ∷ semicolon ∷ more

abbrev pub out_arc : List ℕ → List ℕ → Stream → PInscription
out_arc p x at = form_at (at 0) (I.Arc Output (named_at (at 1) p) (Some (var_at (at 3) x)))

-- `trans make { in c: n; guard n > 0; w: new worker; out c: n - 1; out busy: w; }`
unfoldable pub make_kinds : Kinds → Kinds
make_kinds more =
    trans_word ∷ Name (codes "make") ∷ open_brace ∷ in_kinds (codes "c") (codes "n") (
    guard_word ∷ Name (codes "n") ∷ Sign sign.GREATER ∷ Number (pos 0) ∷ semicolon
    ∷ Name (codes "w") ∷ colon ∷ new_word ∷ Name (codes "worker") ∷ semicolon
    ∷ out_word ∷ Name (codes "c") ∷ colon ∷ Name (codes "n") ∷ minus ∷ Number (pos 1) ∷ semicolon
    ∷ out_kinds (codes "busy") (codes "w") (close_brace ∷ more))

unfoldable pub make : Stream → PTransition
make at = transition_of (named_at (at 1) (codes "make")) (
    in_arc (codes "c") (codes "n") (past 3 at)
    ∷ form_at (at 8) (I.Guard (compared Greater (var_at (at 9) (codes "n")) (int_at (at 11) 0)))
    ∷ form_at (at 13) (I.New (named_at (at 13) (codes "w")) (named_at (at 16) (codes "worker")))
    ∷ form_at (at 18) (I.Arc Output (named_at (at 19) (codes "c"))
    (Some (joined Sub (var_at (at 21) (codes "n")) (int_at (at 23) 1))))
    ∷ out_arc (codes "busy") (codes "w") (past 25 at)
    ∷ [])

-- `trans step { in busy: w; w:go(k); out busy: w; }`
unfoldable pub step_kinds : Kinds → Kinds
step_kinds more =
    trans_word ∷ Name (codes "step") ∷ open_brace ∷ in_kinds (codes "busy") (codes "w") (
    Name (codes "w") ∷ colon ∷ Name (codes "go") ∷ open_paren ∷ Name (codes "k") ∷ close_paren
    ∷ semicolon ∷ out_kinds (codes "busy") (codes "w") (close_brace ∷ more))

unfoldable pub step : Stream → PTransition
step at = transition_of (named_at (at 1) (codes "step")) (
    in_arc (codes "busy") (codes "w") (past 3 at)
    ∷ form_at (at 8) (I.Downlink (var_at (at 8) (codes "w")) (named_at (at 10) (codes "go"))
    (var_at (at 12) (codes "k") ∷ []))
    ∷ out_arc (codes "busy") (codes "w") (past 15 at)
    ∷ [])

-- `trans finish { in busy: w; w:done(); }`
unfoldable pub finish_kinds : Kinds → Kinds
finish_kinds more =
    trans_word ∷ Name (codes "finish") ∷ open_brace ∷ in_kinds (codes "busy") (codes "w") (
    Name (codes "w") ∷ colon ∷ Name (codes "done") ∷ open_paren ∷ close_paren ∷ semicolon
    ∷ close_brace ∷ more)

unfoldable pub finish : Stream → PTransition
finish at = transition_of (named_at (at 1) (codes "finish")) (
    in_arc (codes "busy") (codes "w") (past 3 at)
    ∷ form_at (at 8) (I.Downlink (var_at (at 8) (codes "w")) (named_at (at 10) (codes "done")) [])
    ∷ [])

-- `trans go { :go(k); in s: k; guard k < 3; out s: k + 1; }`
unfoldable pub go_on_kinds : Kinds → Kinds
go_on_kinds more =
    trans_word ∷ Name (codes "go") ∷ open_brace
    ∷ colon ∷ Name (codes "go") ∷ open_paren ∷ Name (codes "k") ∷ close_paren ∷ semicolon
    ∷ in_kinds (codes "s") (codes "k") (
    guard_word ∷ Name (codes "k") ∷ Sign sign.LESS ∷ Number (pos 3) ∷ semicolon
    ∷ out_word ∷ Name (codes "s") ∷ colon ∷ Name (codes "k") ∷ Sign sign.PLUS ∷ Number (pos 1)
    ∷ semicolon ∷ close_brace ∷ more)

unfoldable pub go_on : Stream → PTransition
go_on at = transition_of (named_at (at 1) (codes "go")) (
    form_at (at 3) (I.Uplink (named_at (at 4) (codes "go")) (var_at (at 6) (codes "k") ∷ []))
    ∷ in_arc (codes "s") (codes "k") (past 9 at)
    ∷ form_at (at 14) (I.Guard (compared Less (var_at (at 15) (codes "k")) (int_at (at 17) 3)))
    ∷ form_at (at 19) (I.Arc Output (named_at (at 20) (codes "s"))
    (Some (joined Add (var_at (at 22) (codes "k")) (int_at (at 24) 1))))
    ∷ [])

-- `trans done { :done(); in s: 3; }`
unfoldable pub be_done_kinds : Kinds → Kinds
be_done_kinds more =
    trans_word ∷ Name (codes "done") ∷ open_brace
    ∷ colon ∷ Name (codes "done") ∷ open_paren ∷ close_paren ∷ semicolon
    ∷ in_word ∷ Name (codes "s") ∷ colon ∷ Number (pos 3) ∷ semicolon ∷ close_brace ∷ more

unfoldable pub be_done : Stream → PTransition
be_done at = transition_of (named_at (at 1) (codes "done")) (
    form_at (at 3) (I.Uplink (named_at (at 4) (codes "done")) [])
    ∷ form_at (at 8) (I.Arc Input (named_at (at 9) (codes "s")) (Some (int_at (at 11) 3)))
    ∷ [])

-- net `main`, with this number in its first place
unfoldable pub main_kinds : ℤ → Kinds → Kinds
main_kinds z more =
    net_word ∷ Name (codes "main") ∷ open_brace
    ∷ int_var_kinds (codes "n") (int_var_kinds (codes "k") (net_var_kinds (codes "w") (
    int_place_kinds (codes "c") z (net_place_kinds (codes "busy") (
    make_kinds (step_kinds (finish_kinds (close_brace ∷ more))))))))

unfoldable pub main : ℤ → Stream → PNet
main z at = plain_net_of (named_at (at 1) (codes "main"))
    (int_var (codes "n") (past 3 at) ∷ int_var (codes "k") (past 8 at)
    ∷ net_var (codes "w") (past 13 at) ∷ [])
    (int_place (codes "c") z (past 18 at) ∷ net_place (codes "busy") (past 25 at) ∷ [])
    (make (past 30 at) ∷ step (past 61 at) ∷ finish (past 82 at) ∷ [])

-- net `worker`
unfoldable pub worker_kinds : Kinds → Kinds
worker_kinds more =
    net_word ∷ Name (codes "worker") ∷ open_brace
    ∷ int_var_kinds (codes "k") (int_place_kinds (codes "s") (pos 0) (
    go_on_kinds (be_done_kinds (close_brace ∷ more))))

unfoldable pub worker : Stream → PNet
worker at = plain_net_of (named_at (at 1) (codes "worker"))
    (int_var (codes "k") (past 3 at) ∷ [])
    (int_place (codes "s") (pos 0) (past 8 at) ∷ [])
    (go_on (past 15 at) ∷ be_done (past 42 at) ∷ [])

-- the whole text
unfoldable pub workload_kinds : ℤ → Kinds
workload_kinds z = go_kinds (done_kinds (main_kinds z (worker_kinds [])))

unfoldable pub workload_form : ℤ → Stream → Plain
workload_form z at = plain_of 1 (go_channel at ∷ done_channel (past 6 at) ∷ [])
    (main z (past 11 at) ∷ worker (past 109 at) ∷ [])
