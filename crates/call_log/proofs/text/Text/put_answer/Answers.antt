-- `call_log::text::Text::put_answer`: kind, refusal, digits and line end, one behind the other. Assumes nothing.
use Rattle.std.proofs.Common.{◌≤◌, length, arith}
use Rattle.call_log.specs.Text.{line_of}
use Rattle.call_log.proofs.Texts.{length-hexadecimal, puts_next, kind_tag, value_is}
use Rattle.call_log.proofs.text.Text.put_answer.Goals as goal

pub returns-clause-line : goal.returns-clause-line
unfolding line_of
returns-clause-line c =
    let digits = length-hexadecimal 16 c.unwrap_or.result in
    let room : c.put-3.new.self.at ≤ length c.put-3.new.self.buffer.now = omega arith in
    let room-2 : c.put-2.new.self.at ≤ length c.put-2.new.self.buffer.now = omega arith in
    let room-1 : c.put.new.self.at ≤ length c.put.new.self.buffer.now = omega arith in
    let value = puts_next c.put_hexadecimal.ensures c.put-3.ensures room in
    let refusal = puts_next (puts_next c.put_decimal-2.ensures.digits c.put-2.ensures room-2) value room in
    let line = puts_next (puts_next c.put_decimal.ensures.digits c.put.ensures room-1) refusal room in
    rw (kind_tag c.args.kind, c.returned.ensures, c.unwrap_or.ensures, value_is c.args.answer) at line
