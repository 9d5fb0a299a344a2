-- The values of a mark can be counted.
use Rattle.std.proofs.Common.{◌≡◌, ◌<◌, true, length, map, rules, arith}
use Rattle.std.proofs.lemmas.List.{length-map}
use Rattle.rn_lines.specs.link.LinesSeen.{item}
use Rattle.rn_record_reader.specs.Marks.{fits_format, counted_after}
use Rattle.rn_record_reader.proofs.HeldValues.{few_values, is_counted}
use Rattle.rn_record_reader.proofs.marks.judge_mark.Goals as goal

pub values_of-requires : goal.values_of-requires
values_of-requires c =
    let read = c.as_slice-items.result.now in
    let items = map item read in
    let fits : fits_format c.args.by.reader.format items ≡ true = search rules in
    let short : length read < 18446744073709551616 = search rules in
    let same = length-map read item in
    few_values c.args.by.reader.format c.args.held items fits (omega (arith, short, same))
    (is_counted (counted_after c.args.by.reader.format c.args.held items) c.in-Some.counted (search rules))
