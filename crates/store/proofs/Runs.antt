-- The pass of a release on the image itself: a run of neighbours is kept back, and written where it ends; the total is written at the end. Assumes nothing.
use Rattle.std.specs.Prelude.{ℕ, ◌+◌, ◌^◌, ◌≤◌, ◌<◌, ◌≡◌, refl, Bool, true, false, cond, ◌&&◌, ◌||◌, List, leb, ltb, eqb, length}
use Rattle.std.proofs.Common.{sym, ap, ◌∙◌, subst, arith, eq-eqb}
use Rattle.std.proofs.lemmas.Bool.{lt-leb}
use Rattle.frame.specs.Tags.{wrapper, entry_of}
use Rattle.block.specs.Layout.{stored_total, with_total, header_at, extent_at, size_at, sound}
use Rattle.block.specs.laws.Soundness.{sound-same, sound_in, sound-extent, sound-end}
use Rattle.block.specs.laws.Total.{length-with_total, with_total-header, stored_with_total, with_total_again}
use Rattle.block.specs.Walk.{is_of_cue}
use Rattle.block.specs.declared.header.Header.{Header}
use Rattle.block.specs.laws.Gathering.{cue_live}
use Rattle.block.specs.laws.Turns.{Seen, live_holds}
use Rattle.store.specs.State.{State, state}
use Rattle.store.specs.Calls.{noted, merge_start, merge_end, merged, given_back}
use Rattle.store.specs.laws.Opening.{Open, opening_parts}
use Rattle.store.specs.laws.Free.{merge_start-free, merge_start-behind, length_merged, merged-header, merged-with_total}
use Rattle.store.specs.laws.Sweep.{settled, Run, no_run, length-settled, settled-behind, settled_again}
use Rattle.store.proofs.Carving.{entry_needs}
use Rattle.store.proofs.Freeing.{from, to, frees}
use Rattle.store.proofs.Sweeping.{Sweep, Step, sweep_ends, sweep_sound, sweep_passes, sweep_takes}

-- images of one length with the same header at `next` merge to the same end
merge_end-same : (image other : List ℕ) (n : ℕ) → length other ≡ length image → header_at other n ≡ header_at image n → merge_end other n ≡ merge_end image n
unfolding merge_end
merge_end-same image other n l e = λ i. cond (ltb n (l i) && eqb (e i).kind 1) (n + (e i).extent) n

-- where the run and a total are written, the longer run and another total leave nothing of them
run_merged : {run : Bool} {image : List ℕ} {start h : ℕ} → Run run image start h → (end old total : ℕ) → 16 ≤ start → start + 16 ≤ end → h ≤ end → end ≤ length image
    → with_total (merged (with_total (settled run image start h) old) start end) total ≡ with_total (merged image start end) total
run_merged {run} {image} {start} {h} r end old total low room l high =
    let written : List ℕ = settled run image start h in
    let inside : end ≤ length written = omega (arith, high, length-settled r) in
    let n : length (merged written start end) ≡ length written = length_merged written start end room inside in
    ap (λ (b : List ℕ). with_total b total) (merged-with_total written start end room inside old low)
    ∙ with_total_again (merged written start end) total (omega (arith, n, inside, room)) old
    ∙ ap (λ (b : List ℕ). with_total b total) (settled_again r end l high)

-- What the loop carries along: with the run from `start` to h written, where there is one, and the total, the pass stands at h, and a free there merges
-- from `start`.
pub record Pass (s cue : ℕ) (goal : State) (image table : List ℕ) (total : ℕ) (run : Bool) (start h : ℕ) : Type 0 where
  pub kept : Run run image start h
  pub low : 16 ≤ h
  pub small : total < 2 ^ 32
  pub before : ℕ
  pub starts : merge_start (with_total (settled run image start h) total) before h ≡ start
  pub places : List ℕ
  pub swept : Sweep s cue goal (state (with_total (settled run image start h) total) table) before h places

module _ {s cue : ℕ} {goal : State} {image table : List ℕ} {total : ℕ} {run : Bool} {start h : ℕ} (p : Pass s cue goal image table total run start h) where
  -- the image with the run written
  abbrev written : List ℕ
  written = settled run image start h

  superblock_in : 16 ≤ length written
  superblock_in = omega (arith, p.low, p.kept.high, length-settled p.kept)

  -- and the total
  abbrev whole : List ℕ
  whole = with_total written total

  -- is as long
  long : length whole ≡ length image
  long = length-with_total written total superblock_in ∙ length-settled p.kept

  -- has the same headers from h on
  whole-behind : (k : ℕ) → h ≤ k → header_at whole k ≡ header_at image k
  whole-behind k l = with_total-header written total superblock_in k (omega (arith, p.low)) ∙ settled-behind p.kept k l

  -- at the end, what the calls wrote is the goal
  pub pass_ends : (len : ℕ) (last after : List ℕ) → len ≡ h → len ≡ length image → last ≡ settled run image start len → after ≡ with_total last total
      → state after table ≡ goal
  pass_ends len last after a e b c =
      let bytes : after ≡ whole = c ∙ ap (λ (i : List ℕ). with_total i total) (b ∙ ap (settled run image start) a) in
      ap (λ (i : List ℕ). state i table) bytes ∙ sweep_ends p.swept (sym a ∙ e ∙ sym long)

  -- before it stands a sound header
  pub pass_sees : (d : Header) → (h ≡ length image → ⊥) → d ≡ header_at image h → Seen image h d
  pass_sees d below q =
      let o : sound image h ≡ true =
      sym (sound-same image h whole long (whole-behind h (omega arith))) ∙ sweep_sound p.swept (λ e. below (e ∙ long))
      in
      rw q (record { is_sound = o; is_header = refl; inside = sound-end image h o; long = sound-extent image h o })

  module _ {d : Header} (e : Seen image h d) where
    -- h is not the end of it either
    below : h ≡ length whole → ⊥
    below q = omega (arith, sound_in image h e.is_sound, long)

    -- the same header, where the run is written
    same-header : header_at whole h ≡ d
    same-header = whole-behind h (omega arith) ∙ sym e.is_header

    -- a block that is not of the cue: the run is written, and none is kept back
    pub pass_passes : is_of_cue cue d ≡ false → Pass s cue goal written table total false (cond (eqb d.kind 1) h (h + d.extent)) (h + d.extent)
    unfolding settled
    pass_passes t =
        record {
          kept = no_run (omega (arith, e.inside, length-settled p.kept));
          low = omega (arith, p.low);
          small = p.small;
          before = h;
          starts =
              merge_start-behind whole (h + d.extent) h (omega (arith, p.low))
              ∙ ap (λ (k : Header). cond (eqb k.kind 1) h (h + d.extent)) same-header;
          places = p.places;
          swept =
              subst (λ (k : Header). Sweep s cue goal (state whole table) h (h + k.extent) p.places) same-header
              (sweep_passes p.swept below (ap (is_of_cue cue) same-header ∙ t));
        }

    -- An object of the cue.
    module _ (t : is_of_cue cue d ≡ true) where
      -- it is freed where the run is written
      step : Step s cue goal (state whole table) p.before h p.places
      step = sweep_takes p.swept below (ap (is_of_cue cue) same-header ∙ t)

      -- where rows 4 and 5 are passed
      opens : Open (state whole table) s
      opens = opening_parts (state whole table) s p.swept.opens

      -- what its tag and entry ask for
      pub pass_needs : (s < 16) × (16 ≤ h) × (h + 16 + d.size ≤ 2 ^ 30) × (s < wrapper h d.size → entry_of s h d.size < length table)
      pass_needs =
          entry_needs (state whole table) s h d.size opens p.low (omega (arith, live_holds e (cue_live cue d t), e.inside, long))

      -- the header behind it
      pub pass_next : (h + d.extent ≤ length image) × (h + d.extent < length image → sound image (h + d.extent) ≡ true)
      pass_next =
          let n : ℕ = h + d.extent in
          let good : leb (length whole) n || sound whole n ≡ true =
          subst (λ (k : Header). leb (length whole) (h + k.extent) || sound whole (h + k.extent) ≡ true) same-header step.freeable.next_good
          in (
            e.inside,
            λ l.
                let o : sound whole n ≡ true = rw (lt-leb (length whole) n (omega (arith, long))) at good in
                sym (sound-same image n whole long (whole-behind n (omega arith))) ∙ o,
          )

      -- its free merges to where the code looks
      abbrev end : ℕ
      end = merge_end image (h + d.extent)

      end_is : to step.freeable ≡ end
      end_is =
          ap (λ (k : Header). merge_end whole (h + k.extent)) same-header
          ∙ merge_end-same image whole (h + d.extent) long (whole-behind (h + d.extent) (omega arith))

      end_in : (h + d.extent ≤ end) × (end ≤ length image)
      end_in =
          let f = frees step.freeable in
          let l : h + extent_at whole h ≤ to step.freeable = f.ends in
          (omega (arith, l, ap (λ (k : Header). k.extent) same-header, end_is), omega (arith, f.high, end_is, long))

      -- the pass gets on
      pub pass_gains : h < end
      pass_gains = omega (arith, end_in.0, e.long)

      -- the total with its extent
      sum_is : stored_total whole + extent_at whole h ≡ total + d.extent
      sum_is = λ i. stored_with_total written total superblock_in p.small i + (same-header i).extent

      -- is a 32-bit number
      pub pass_sum : total + d.extent < 2 ^ 32
      pass_sum = omega (arith, step.freeable.total, sum_is, opens.short)

      -- its entry is cleared, its extent is given back, and the run goes on behind it, and behind a free block that follows
      run_longer : Pass s cue goal image (noted s h d.size 0 table) (total + d.extent) true start end
      unfolding settled
      run_longer =
          let f = frees step.freeable in
          let low : 16 ≤ start = omega (arith, f.low, p.starts) in
          let room : start + 16 ≤ end = omega (arith, f.room, p.starts, end_is) in
          let sum : ℕ = total + d.extent in
          let m : length (merged image start end) ≡ length image = length_merged image start end room end_in.1 in
          let bytes : given_back whole h (from step.freeable) (to step.freeable) ≡ with_total (merged image start end) sum =
          (λ i. with_total (merged whole (p.starts i) (end_is i)) (sum_is i))
          ∙ run_merged p.kept end total sum low room (omega (arith, end_in.0)) end_in.1
          in
          let entries : noted s h (size_at whole h) 0 table ≡ noted s h d.size 0 table = ap (λ (k : Header). noted s h k.size 0 table) same-header in
          let after : State = state (with_total (merged image start end) sum) (noted s h d.size 0 table) in
          record {
            kept =
                record {
                  low = λ r. low;
                  room = λ r. room;
                  high = end_in.1;
                };
            low = omega (arith, low, room);
            small = pass_sum;
            before = start;
            starts =
                merge_start-free (with_total (merged image start end) sum) end start (omega arith)
                (eq-eqb _ _
                (ap (λ (k : Header). k.kind)
                (with_total-header (merged image start end) sum (omega (arith, m, low, room, end_in.1)) start low
                ∙ merged-header image start end room end_in.1 (omega (arith, opens.short, long)))));
            places = step.rest;
            swept =
                subst (λ (k : ℕ). Sweep s cue goal after start k step.rest) end_is
                (subst (λ (b : ℕ). Sweep s cue goal after b (to step.freeable) step.rest) p.starts
                (subst (λ (y : State). Sweep s cue goal y (from step.freeable) (to step.freeable) step.rest) (λ i. state (bytes i) (entries i))
                step.swept));
          }

      -- the same, with what the calls gave
      pub pass_takes : (entries : List ℕ) (behind : ℕ) → entries ≡ noted s h d.size 0 table → behind ≡ end
          → Pass s cue goal image entries (total + d.extent) true start behind
      pass_takes entries behind a b = rw (a, b) run_longer
