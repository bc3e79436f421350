-- The turns of the loop that runs a log: what the rest of the run prints and leaves, by what the reader gives next. Assumes nothing.
use Rattle.std.proofs.Common.{ℕ, ◌+◌, ◌*◌, ◌≤◌, ◌<◌, ◌≡◌, refl, List, [], ◌++◌, length, take, Some, None, Result, Ok, Err, sym, ap, ◌∙◌, append_assoc, append-nil, arith, Bor, ⊎_elim}
use Rattle.std.proofs.str.Laws.{order}
use Rattle.block.specs.Bytes.{put}
use Rattle.block.specs.laws.Writes.{take-put-end}
use Rattle.store.specs.State.{State, state, Outcome, outcome, returned, value}
use Rattle.store.specs.State.{Answer}
use Rattle.call_log.specs.Buffer.{Puts}
use Rattle.call_log.specs.Reader.{item, position_after, GivesNext}
use Rattle.call_log.specs.Records.{kind_of, Next, next_at, records_from}
use Rattle.call_log.specs.Run.{made, answered_by, answers, left_by, run_of, run_over}
use Rattle.call_log.specs.Text.{line_of, answer_line, answer_lines, fault_line, printed, text_room}
use Rattle.call_log.specs.laws.Records.{records-next, next-end, next-behind}
use Rattle.call_log.specs.declared.reader.Reader.{Reader}
use Rattle.call_log.specs.declared.record.Call.{Call}
use Rattle.call_log.specs.declared.record.Fault.{Fault}
use Rattle.call_log.specs.declared.text.Text.{Text}

-- What the log has, by the item that the reader gave.

given_end : (k : Next) → None ≡ item k → k ≡ None
given_end None e = refl
given_end (Some (Err f)) e = cc
given_end (Some (Ok (c, n))) e = cc

given_fault : (k : Next) (f : Fault) → Some (Err f) ≡ item k → k ≡ Some (Err f)
given_fault None f e = cc
given_fault (Some (Err g)) f e = cc
given_fault (Some (Ok (c, n))) f e = cc

given_record : (k : Next) (at len : ℕ) (c : Call) → Some (Ok c) ≡ item k → k ≡ Some (Ok (c, position_after k at len))
given_record None at len c e = cc
given_record (Some (Err f)) at len c e = cc
given_record (Some (Ok (d, n))) at len c e = let same : c ≡ d = cc in rw same refl

-- where there is something, it is not past the end
not_past : (log : List ℕ) (at : ℕ) (r : Result (Call × ℕ) Fault) → next_at log at ≡ Some r → at < length log
not_past log at r e = ⊎_elim (λ (l : at < length log). l) (λ (l : length log ≤ at). let z = sym (next-end log at l) ∙ e in absurd cc) (order at (length log))

module _ (log : List ℕ) (at : ℕ) (x : State) where
  -- at the end of the log
  run_ended : next_at log at ≡ None → (printed (run_of (records_from log at) x) ≡ []) × ((run_of (records_from log at) x).after ≡ x)
  unfolding printed answers answer_lines left_by
  run_ended e = rw (records-next log at None e) (refl, refl)

  -- at a malformed record
  run_broken : (f : Fault) → next_at log at ≡ Some (Err f)
      → (printed (run_of (records_from log at) x) ≡ fault_line f) × ((run_of (records_from log at) x).after ≡ x)
  unfolding printed answers answer_lines left_by
  run_broken f e = rw (records-next log at (Some (Err f)) e) (refl, refl)

  -- at a record
  run_next : (c : Call) (n : ℕ) → next_at log at ≡ Some (Ok (c, n)) →
      let rest = run_of (records_from log n) (made c x).after in
      (printed (run_of (records_from log at) x) ≡ answer_line (answered_by c x) ++ printed rest) × ((run_of (records_from log at) x).after ≡ rest.after)
  unfolding printed answers answer_lines left_by
  run_next c n e = rw (records-next log at (Some (Ok (c, n))) e) (append_assoc (answer_line (answered_by c x)) _ _, refl)

-- what was put, and a piece behind it
put-behind : {s t : Text} {piece : List ℕ} → Puts s piece t → t.at ≤ length t.buffer.now → take t.at t.buffer.now ≡ take s.at s.buffer.now ++ piece
put-behind {s} {t} {piece} p room =
    ap (take t.at) p.text ∙ ap (λ (n : ℕ). take n (put s.buffer.now s.at piece)) p.position
    ∙ take-put-end s.buffer.now s.at piece (omega (arith, p.position, p.same_length))

-- Between two records. What is left of the log, run on x, prints and leaves the rest of the whole run; and its text has room.
pub record Running (log : List ℕ) (start : State) (begun : Text) (r : Reader) (t : Text) (x : State) : Type 0 where
  pub same_log : r.log.now ≡ log
  pub same_length : length t.buffer.now ≡ length begun.buffer.now
  pub same_buffer : t.buffer.ghost_name ≡ begun.buffer.ghost_name
  pub short : r.at < length log → 10 * t.at ≤ 23 * r.at
  pub room : t.at ≤ text_room (length log)
  pub prints : take t.at t.buffer.now ++ printed (run_of (records_from log r.at) x) ≡ printed (run_over log start)
  pub leaves : (run_of (records_from log r.at) x).after ≡ (run_over log start).after

module _
    {log : List ℕ} {start x : State} {begun t : Text} {r r' : Reader}
    (run : Running log start begun r t x) (fits : text_room (length log) ≤ length begun.buffer.now)
  where
    -- the log is used up
    pub ended : GivesNext r None r' → (take t.at t.buffer.now ≡ printed (run_over log start)) × (x ≡ (run_over log start).after)
    ended g =
        let none : next_at log r.at ≡ None = given_end _ (rw run.same_log at g.gives) in
        let (p, a) = run_ended log r.at x none in
        (sym (append-nil (take t.at t.buffer.now)) ∙ ap (λ (u : List ℕ). take t.at t.buffer.now ++ u) (sym p) ∙ run.prints, sym a ∙ run.leaves)

    -- the line of a malformed record fits, and nothing is left behind it
    module _ (f : Fault) (g : GivesNext r (Some (Err f)) r') where
      faulty : next_at log r.at ≡ Some (Err f)
      faulty = given_fault _ f (rw run.same_log at g.gives)

      pub fault_fits : t.at + 7 ≤ length t.buffer.now
      fault_fits =
          let inside : r.at < length log = not_past log r.at _ faulty in
          omega (arith, run.short inside, run.same_length)

      pub broken : (u : Text) → Puts t (fault_line f) u → u.at ≤ t.at + 7 → Running log start begun r' u x
      broken u p few =
          let inside : r.at < length log = not_past log r.at _ faulty in
          let short = run.short inside in
          let at-end : r'.at ≡ length log = rw (run.same_log, faulty) at g.position in
          let front : List ℕ = take t.at t.buffer.now in
          let rest : List ℕ = printed (run_of (records_from log r'.at) x) in
          let (line, left) = run_broken log r.at x f faulty in
          let (none, left') = run_ended log r'.at x (next-end log r'.at (omega arith)) in
          record {
            same_log = ap (λ (l : Bor (List ℕ)). l.now) g.same_log ∙ run.same_log;
            same_length = p.same_length ∙ run.same_length;
            same_buffer = p.same_buffer ∙ run.same_buffer;
            short = λ i. absurd (omega arith);
            room = omega arith;
            prints =
                ap (λ (v : List ℕ). v ++ rest) (put-behind p (omega (arith, fault_fits, p.same_length)))
                ∙ ap (λ (v : List ℕ). front ++ fault_line f ++ v) none ∙ append-nil (front ++ fault_line f)
                ∙ ap (λ (v : List ℕ). front ++ v) (sym line) ∙ run.prints;
            leaves = left' ∙ sym left ∙ run.leaves;
          }

    -- the line of a call fits, and the rest is left
    module _ (c : Call) (g : GivesNext r (Some (Ok c)) r') where
      found : next_at log r.at ≡ Some (Ok (c, r'.at))
      found =
          let position : r'.at ≡ position_after (next_at log r.at) r.at (length log) = rw run.same_log at g.position in
          given_record _ r.at (length log) c (rw run.same_log at g.gives) ∙ ap (λ (n : ℕ). Some (Ok (c, n))) (sym position)

      pub line_fits : t.at + 23 ≤ length t.buffer.now
      line_fits =
          let (later, inside) = next-behind log r.at c r'.at found in
          omega (arith, run.short (omega (arith, later, inside)), run.same_length, later, inside)

      pub went_on :
          (a : Answer) (image table : List ℕ) (kind : ℕ) (u : Text) → outcome a image table ≡ made c x → kind ≡ kind_of c
          → Puts t (line_of kind (returned a) (value a)) u → u.at ≤ t.at + 23 → Running log start begun r' u (state image table)
      went_on a image table kind u o k put few =
          let line : List ℕ = answer_line (answered_by c x) in
          let p : Puts t line u = rw (k, ap (λ (v : Outcome). v.answer) o) at put in
          let (later, inside) = next-behind log r.at c r'.at found in
          let short = run.short (omega (arith, later, inside)) in
          let front : List ℕ = take t.at t.buffer.now in
          let rest : List ℕ = printed (run_of (records_from log r'.at) (made c x).after) in
          let (printed_next, left) = run_next log r.at x c r'.at found in
          rw (ap (λ (v : Outcome). v.after) o) (record {
            same_log = ap (λ (l : Bor (List ℕ)). l.now) g.same_log ∙ run.same_log;
            same_length = p.same_length ∙ run.same_length;
            same_buffer = p.same_buffer ∙ run.same_buffer;
            short = λ i. omega arith;
            room = omega arith;
            prints =
                ap (λ (v : List ℕ). v ++ rest) (put-behind p (omega (arith, line_fits, p.same_length)))
                ∙ append_assoc front line rest ∙ ap (λ (v : List ℕ). front ++ v) (sym printed_next) ∙ run.prints;
            leaves = sym left ∙ run.leaves;
          })
