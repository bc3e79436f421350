-- Each turn is one of `Turns`. Assumes nothing.
use Rattle.std.proofs.Common.{rules}
use Rattle.call_log.proofs.Turns.{ended, broken, line_fits, went_on}
use Rattle.call_log.proofs.running.replay.Goals as goal

-- a call
pub put_answer-requires : goal.put_answer-requires
put_answer-requires c = line_fits c.loop-record.invariant.runs c.requires _ (rw c.in-Ok.is at c.in-Some.ensures.steps)

pub loop-record-preserved-in-Ok : goal.loop-record-preserved-in-Ok
loop-record-preserved-in-Ok c = record {
  can = tt;
  finite = tt;
  runs =
      went_on c.loop-record.invariant.runs c.requires _ (rw c.in-Ok.is at c.in-Some.ensures.steps) _ _ _ _ _
      c.make-answer.ensures c.kind.ensures c.put_answer.ensures.line c.put_answer.ensures.few;
}

-- a malformed record
pub loop-record-preserved : goal.loop-record-preserved
loop-record-preserved c = record {
  can = tt;
  finite = tt;
  runs =
      broken c.loop-record.invariant.runs c.requires _ (rw c.in-Err.is at c.in-Some.ensures.steps) _
      c.put_fault.ensures.line c.put_fault.ensures.few;
}

-- the log is used up
pub returns-clause-text_after : goal.returns-clause-text_after
returns-clause-text_after c =
    let (text, left) = ended c.loop-record.invariant.runs c.requires c.in-None.ensures.steps in
    let same = c.loop-record.invariant.runs.same_buffer in
    search (rules, text)

pub returns-clause-table_after : goal.returns-clause-table_after
returns-clause-table_after c = let (text, left) = ended c.loop-record.invariant.runs c.requires c.in-None.ensures.steps in left
