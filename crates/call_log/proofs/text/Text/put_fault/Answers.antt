-- `call_log::text::Text::put_fault`: the word, the number and the line end. Assumes nothing.
use Rattle.std.proofs.Common.{◌≤◌, length, arith}
use Rattle.call_log.specs.Text.{fault_line}
use Rattle.call_log.proofs.Texts.{puts_next, fault_tag}
use Rattle.call_log.proofs.text.Text.put_fault.Goals as goal

pub returns-clause-line : goal.returns-clause-line
unfolding fault_line
returns-clause-line c =
    let room : c.put-2.new.self.at ≤ length c.put-2.new.self.buffer.now = omega arith in
    let line = puts_next c.put.ensures (puts_next c.put_decimal.ensures.digits c.put-2.ensures room) room in
    rw (fault_tag c.args.f) at line
