use Rattle.rn_notation.proofs.Names.{rules}
use Rattle.rn_notation.proofs.OneReading.{reads_only, reads_slices}
use Rattle.rn_notation.proofs.lexing.lex.Goals as goal

pub returns : goal.returns
returns c =
    let only = reads_only c.args.bytes.now c.in_ok-lexed.lexed.tokens c.in_ok-lexed.lexed.fault c.in_ok-lexed.ensures.reads in
    let slices = reads_slices c.args.bytes.now c.in_ok-lexed.lexed.tokens c.in_ok-lexed.lexed.fault c.in_ok-lexed.ensures.reads in
    record {
      tokens = search rules;
      only = only.0;
      fault = search rules;
      only_before = only.1;
      fault_exactly = only.2;
      none_exactly = only.3;
      slices = slices.0;
      ascend = slices.1;
      end = c.in_ok-lexed.ensures.end;
    }
