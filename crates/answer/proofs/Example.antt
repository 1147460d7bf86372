-- The definition of the answer gives the scope's own example: reader, search and frames are computed. Assumes nothing.
use mathlib.Core.Path.{◌≡◌, refl}
use Rattle.masks.specs.Bit.{bit, somewhere}
use Rattle.ic3.specs.Model.{least}
use Rattle.ic3.specs.Search.{level_of, put, states, R, wanted, judge, goes_on, round, tested, found, deeper, settled, fits, kept, react, next, search_from, begun, searched}
use Rattle.system.specs.System.{literal_true, clause_true, four_true, list_true, some_true, pair, model, wrong_size, wrong_count, wrong_mask, wrong_clause, wrong_bit, refusal_of}
use Rattle.call.specs.Call.{wrong_stores, refused, ended, called}
use Rattle.text.specs.Lines.{before, lines}
use Rattle.line.specs.Text.{digit, ahead, bytes, sum, number}
use Rattle.line.specs.Says.{in_place, width, length_for, field, content, frame_says, says}
use Rattle.house.specs.File.{has_room, room_for, with_clause, read_lines, said}
use Rattle.answer.specs.Output.{letter, digits, sum_byte, line_of, one, two, four}
use Rattle.answer.specs.Answer.{state_lines, verdict_lines, call_lines, scan_stores, said_lines, answered}
use Rattle.answer.specs.Example.{ring_file, ring_answer}

pub ring_answered : answered ring_file ≡ ring_answer
unfolding bit somewhere least level_of put states R wanted judge goes_on round tested found deeper settled fits kept react next search_from begun searched
    literal_true clause_true four_true list_true some_true pair model wrong_size wrong_count wrong_mask wrong_clause wrong_bit refusal_of
    wrong_stores refused ended called before lines digit ahead bytes sum number in_place width length_for field content frame_says says
    has_room room_for with_clause read_lines said letter digits sum_byte line_of one two four state_lines verdict_lines call_lines scan_stores said_lines answered
ring_answered = refl
