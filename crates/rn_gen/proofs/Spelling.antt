-- The workload text spells its plain form, with the spots of its tokens.
use Rattle.std.proofs.Common.{◌≡◌, ℕ, ℤ, pos, ◌≤◌, true, List, [], ◌∷◌, ◌++◌, map, length, get_or, decimal, refl, sym, ap, ◌∙◌, subst, arith, append-nil, length-append}
use Rattle.std.specs.List.{flat_map}
use Rattle.std.proofs.lemmas.Fmt.{length-decimal-le_succ}
use Rattle.rn_value.specs.Words.{reserved_words}
use Rattle.rn_value.proofs.Numerals.{decimal-numeral}
use Rattle.rn_notation.specs.Words.{signs}
use Rattle.rn_notation.specs.Limits.{longest_net_text}
use Rattle.rn_notation.specs.Tokens.{IsToken}
use Rattle.rn_notation.specs.Reading.{Piece, token, bytes_of, ArePieces, tokens_after, Tokens}
use Rattle.rn_notation.specs.declared.token.Token.{Token}
use Rattle.rn_notation.specs.declared.token.TokenKind.TheVariants.{Number}
use Rattle.rn_inscript.specs.Expressions.{token_at}
use Rattle.rn_net.specs.Levels.Region.{between}
use Rattle.rn_net.specs.Nets.{IsSystem}
use Rattle.rn_net.specs.Texts.{Spells}
use Rattle.rn_net.specs.Words.{semicolon}
use Rattle.rn_print.specs.SameButSpots.{first_spot}
use Rattle.rn_print.proofs.Atoms.{number_stands}
use Rattle.rn_print.proofs.Trees.{pieces_join}
use Rattle.rn_gen.specs.Workload.{workload, start_text, rest_text}
use Rattle.rn_gen.proofs.Atoms.{Atom, pieces_of, bytes_in, are_read, are_pieces, atoms_of, first_atom, word_or_name, span, kinds_in, kinds_are}
use Rattle.rn_gen.proofs.Streams.{with_kinds, in_stream, are_shallow, is_shallow}
use Rattle.rn_gen.proofs.Forms.{Stream, go_kinds, done_kinds, make_kinds, step_kinds, finish_kinds, go_on_kinds, be_done_kinds, main_kinds, worker_kinds, workload_kinds, workload_form}
use Rattle.rn_gen.proofs.Phrases.{workload_reads}

-- the text before the number, and after it
unfoldable first_atoms : List Atom
first_atoms = atoms_of 400 start_text

unfoldable last_atoms : List Atom
last_atoms = atoms_of 800 rest_text

first_read : (rest : List ℕ) → are_read first_atoms rest ≡ true
unfolding first_atoms atoms_of first_atom word_or_name span reserved_words signs
first_read rest = refl

last_read : are_read last_atoms [] ≡ true
unfolding last_atoms atoms_of first_atom word_or_name span reserved_words signs
last_read = refl

first_bytes : bytes_in first_atoms ≡ start_text
unfolding first_atoms atoms_of first_atom word_or_name span reserved_words signs
first_bytes = refl

last_bytes : bytes_in last_atoms ≡ rest_text
unfolding last_atoms atoms_of first_atom word_or_name span reserved_words signs
last_bytes = refl

-- all pieces
unfoldable pieces : ℕ → List Piece
pieces n = pieces_of first_atoms ++ token (Number (pos n)) (decimal n) ∷ pieces_of last_atoms

number_is : (n : ℕ) → n ≤ 10000 → IsToken (Number (pos n)) (decimal n) rest_text
number_is n most =
    subst (λ digits. IsToken (Number (pos n)) digits rest_text)
    (sym (decimal-numeral n (omega arith))) (number_stands n rest_text (omega arith) refl)

pieces_stand : (n : ℕ) → n ≤ 10000 → ArePieces (workload n) (pieces n) []
unfolding pieces
pieces_stand n most =
    let mid = decimal n ++ rest_text in
    let number = token (Number (pos n)) (decimal n) in
    pieces_join (start_text ++ mid) mid [] (pieces_of first_atoms) (number ∷ pieces_of last_atoms)
    (subst (λ t. ArePieces (t ++ mid) (pieces_of first_atoms) mid) first_bytes
    (are_pieces first_atoms mid (first_read mid))) (
      rest_text,
      refl,
      number_is n most,
      subst (λ t. ArePieces t (pieces_of last_atoms) []) (append-nil (bytes_in last_atoms) ∙ last_bytes)
          (are_pieces last_atoms [] last_read),
    )

pieces_cover : (n : ℕ) → workload n ≡ flat_map bytes_of (pieces n)
unfolding pieces first_atoms last_atoms atoms_of first_atom word_or_name span reserved_words signs
pieces_cover n = refl

kinds_of_pieces : (n : ℕ) → kinds_in (pieces n) ≡ workload_kinds (pos n)
unfolding pieces first_atoms last_atoms atoms_of first_atom word_or_name span reserved_words signs workload_kinds go_kinds done_kinds main_kinds make_kinds step_kinds finish_kinds worker_kinds go_on_kinds be_done_kinds
kinds_of_pieces n = refl

pub tokens_of : (n : ℕ) → n ≤ 10000 →
    (tokens : List Token) × Tokens (workload n) tokens
    × (map (λ t. t.kind) tokens ≡ workload_kinds (pos n))
tokens_of n most = (
  tokens_after [] (pieces n),
  record {
    pieces = pieces n;
    stand = pieces_stand n most;
    cover = pieces_cover n;
    among = refl;
  },
  kinds_are [] (pieces n) ∙ kinds_of_pieces n,
)

pub fits : (n : ℕ) → n ≤ 10000 → length (workload n) ≤ longest_net_text
fits n most =
    let mid = decimal n ++ rest_text in
    let whole = length-append start_text mid in
    let parts = length-append (decimal n) rest_text in
    let number = length-decimal-le_succ n (omega arith) in
    let start : length start_text ≤ 1000 = omega arith in
    let end : length rest_text ≤ 1000 = omega arith in
    omega (arith, whole, parts, number, start, end)

kinds_shallow : (z : ℤ) → are_shallow between (workload_kinds z) ≡ true
unfolding workload_kinds go_kinds done_kinds main_kinds make_kinds step_kinds finish_kinds worker_kinds go_on_kinds be_done_kinds
kinds_shallow z = refl

-- tokens as a stream
abbrev pub stream_of : List Token → Stream
stream_of tokens i = get_or tokens i (token_at first_spot semicolon)

-- tokens of these kinds spell the plain form with their spots
pub spells : (text : List ℕ) (z : ℤ) (tokens : List Token) → length text ≤ longest_net_text →
    Tokens text tokens → map (λ t. t.kind) tokens ≡ workload_kinds z →
    Spells text (workload_form z (stream_of tokens))
spells text z tokens fit read kinds =
    let same = ap (with_kinds (stream_of tokens)) (sym kinds)
    ∙ in_stream (token_at first_spot semicolon) tokens in record {
      tokens = tokens;
      fits = fit;
      read = read;
      system = subst (λ ts. IsSystem ts (workload_form z (stream_of tokens))) same
          (workload_reads z (stream_of tokens));
      within = is_shallow between tokens (ap (are_shallow between) kinds ∙ kinds_shallow z);
    }
