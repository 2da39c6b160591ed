-- The cases all hold: texts are read, routed, written and checked by computing the definitions, and what comes out is what is stated.
use mathlib.Core.Path.{refl}
use Rattle.text.specs.Number.{digits, digits_in}
use Rattle.text.specs.ReadMark.{mark_of, end_from, mark_at}
use Rattle.text.specs.ReadNumber.{digit_of, number_at}
use Rattle.text.specs.Field.{spell}
use Rattle.text.specs.FieldByte.{field_byte}
use Rattle.text.specs.ReadLine.{field_at, read_line, fields_from}
use Rattle.text.specs.ReadRing.{read_ring, either_said}
use Rattle.text.specs.WriteLine.{end_of, write_line}
use Rattle.lines.specs.Lines.{lines}
use Rattle.reasons.specs.Judge.{wrong_size, other_fibres, ring_verdict, row_verdict, outside, falls}
use Rattle.checker.specs.Cases.{cases, stated, computed, CasesHold}

pub cases-hold : CasesHold
unfolding computed stated cases
    lines read_ring either_said read_line fields_from field_at number_at digit_of mark_at mark_of end_from
    wrong_size other_fibres ring_verdict row_verdict outside falls
    write_line spell digits digits_in end_of field_byte
cases-hold = refl
