-- What C sees of a call: the returned number, the value, and the image and table as they are left. Assumes nothing.
use Rattle.store.specs.State.{measured_as}
use Rattle.std.specs.Prelude.{ℕ, ◌≡◌, refl, List, [], ◌∷◌, ℤ, pos, negsuc, true, false, Result, Ok, Err}
use Rattle.store.specs.State.{state, Outcome, returned, value, comparison_number, comparison_value, distances_number, start_distance, end_distance, usage_number, live_objects, live_bytes, free_bytes, overhead_bytes}
use Rattle.store.specs.declared.answer.Refusal.TheVariants.{BadLength, Dangling}
use Rattle.store.specs.State.{Answer}
use Rattle.placement.specs.Placement.{Placement, order_word}
use Rattle.overhead.specs.Overhead.{Report}
use Rattle.workload.specs.Traffic.{traffic_number, state_after, bytes_written, LoggedOutcome, logged}
use Rattle.workload.specs.declared.answer.Traffic.{Traffic}
use Rattle.store.specs.declared.answer.Refusal.{Refusal}
use Rattle.store.specs.State.{Usage, Comparison, Measurement}

-- What the export of a call that gives no value returns and leaves.
pub record Left : Type 0 where
  pub returned : ℕ
  pub image : List ℕ
  pub table : List ℕ

-- made of a returned number, an image and a table
abbrev pub left : ℕ → List ℕ → List ℕ → Left
left r image table = record { returned = r; image = image; table = table }

-- what C sees of an outcome whose value is not given
abbrev pub left_by : Outcome → Left
left_by o = left (returned o.answer) o.after.image o.after.table

-- What the export of a call that gives a value returns, gives and leaves.
pub record Export : Type 0 where
  pub returned : ℕ
  pub value : ℕ
  pub image : List ℕ
  pub table : List ℕ

-- made of a returned number, a value, an image and a table
abbrev pub export : ℕ → ℕ → List ℕ → List ℕ → Export
export r v image table = record { returned = r; value = v; image = image; table = table }

-- what C sees of an outcome with its value
abbrev pub exported : Outcome → Export
exported o = export (returned o.answer) (value o.answer) o.after.image o.after.table

-- What the exports of free total and of the type check return and give: the value is 0 where they are refused.
pub record Answered : Type 0 where
  pub returned : ℕ
  pub value : ℕ

-- made of a returned number and a value
abbrev pub answered : ℕ → ℕ → Answered
answered r v = record { returned = r; value = v }

-- what C sees of their answer
abbrev pub exported_answer : Answer → Answered
exported_answer a = answered (returned a) (value a)

-- What the export of compare returns and gives: the value is 0 where it is refused.
pub record Compared : Type 0 where
  pub returned : ℕ
  pub order : ℤ

-- made of a returned number and a value
abbrev pub compared : ℕ → ℤ → Compared
compared r order = record { returned = r; order = order }

-- what C sees of compare's answer
abbrev pub exported_comparison : Comparison → Compared
exported_comparison c = compared (comparison_number c) (comparison_value c)

-- What the export of distances returns and gives: both values are 0 where it is refused.
pub record Measured : Type 0 where
  pub returned : ℕ
  pub from_start : ℤ
  pub to_end : ℤ

-- made of a returned number and two values
abbrev pub measured : ℕ → ℤ → ℤ → Measured
measured r from_start to_end = record { returned = r; from_start = from_start; to_end = to_end }

-- what C sees of distances' answer
abbrev pub exported_distances : Measurement → Measured
exported_distances m = measured (distances_number m) (start_distance m) (end_distance m)

-- one byte before a body of ten, and refused
pub distances_seen :
    let m : Measured = exported_distances (measured_as (negsuc 0) (pos 11)) in
    let r : Measured = exported_distances (Err Dangling) in
    (m.returned ≡ 0) × (m.from_start ≡ negsuc 0) × (m.to_end ≡ pos 11) × (r.returned ≡ 11) × (r.from_start ≡ pos 0) × (r.to_end ≡ pos 0)
distances_seen = (refl, refl, refl, refl, refl, refl)

-- What the export of tally returns and gives: every value is 0 where it is refused.
pub record Tallied : Type 0 where
  pub returned : ℕ
  pub objects : ℕ
  pub live : ℕ
  pub free : ℕ
  pub overhead : ℕ

-- made of a returned number and four values
abbrev pub tallied : ℕ → ℕ → ℕ → ℕ → ℕ → Tallied
tallied r objects live free overhead = record { returned = r; objects = objects; live = live; free = free; overhead = overhead }

-- what C sees of tally's answer
abbrev pub exported_usage : Usage → Tallied
exported_usage u = tallied (usage_number u) (live_objects u) (live_bytes u) (free_bytes u) (overhead_bytes u)

-- What the export of traffic returns, gives and leaves: both values are 0 where set-up is refused, and those of the load where the log is full.
pub record LoggedExport : Type 0 where
  pub returned : ℕ
  pub generator : ℕ
  pub written : ℕ
  pub image : List ℕ
  pub table : List ℕ
  pub log : List ℕ

-- made of a returned number, two values, an image, a table and a log
abbrev pub logged_export : ℕ → ℕ → ℕ → List ℕ → List ℕ → List ℕ → LoggedExport
logged_export r generator written image table log =
    record { returned = r; generator = generator; written = written; image = image; table = table; log = log }

-- what C sees of a load
abbrev pub exported_traffic : LoggedOutcome → LoggedExport
exported_traffic t =
    logged_export (traffic_number t.answer) (state_after t.answer) (bytes_written t.answer) t.after.image t.after.table t.log

-- all draws recorded, a full log, and refused, with an image of one byte, no table and a log of two
pub traffic_seen :
    let seen : Result Traffic Refusal → LoggedExport = λ a. exported_traffic (logged a (state (1 ∷ []) []) (2 ∷ 3 ∷ [])) in
    (seen (Ok (record { generator = 7; written = 9; full = false })) ≡ logged_export 0 7 9 (1 ∷ []) [] (2 ∷ 3 ∷ []))
    × (seen (Ok (record { generator = 7; written = 9; full = true })) ≡ logged_export 23 7 9 (1 ∷ []) [] (2 ∷ 3 ∷ []))
    × (seen (Err BadLength) ≡ logged_export 2 0 0 (1 ∷ []) [] (2 ∷ 3 ∷ []))
traffic_seen = (refl, refl, refl)

-- What the export of order returns and gives: every value is 0 where it is refused.
pub record Ordered : Type 0 where
  pub returned : ℕ
  pub order : ℕ
  pub large : ℕ
  pub tried : ℕ
  pub floor : ℕ

-- made of a returned number and four values
abbrev pub ordered : ℕ → ℕ → ℕ → ℕ → ℕ → Ordered
ordered r order large tried floor = record { returned = r; order = order; large = large; tried = tried; floor = floor }

-- what C sees of the answer
abbrev pub exported_placement : Placement → Ordered
exported_placement p = ordered p.row (order_word p) p.large p.tried p.floor

-- each part of an answer in its place
pub order_seen :
    let p : Placement = record { row = 1; order = []; large = 2; tried = 3; floor = 4 } in
    let o : Ordered = exported_placement p in
    (o.returned ≡ 1) × (o.order ≡ order_word p) × (o.large ≡ 2) × (o.tried ≡ 3) × (o.floor ≡ 4)
order_seen = (refl, refl, refl, refl, refl)

-- What the export of overhead returns and gives: every value is 0 where it is refused.
pub record Reported : Type 0 where
  pub returned : ℕ
  pub raw : ℕ
  pub headed : ℕ
  pub padded : ℕ
  pub end : ℕ
  pub headers_extra : ℕ
  pub headers_over : ℕ
  pub padded_extra : ℕ
  pub padded_over : ℕ

-- made of a returned number, four sums and two fractions
abbrev pub reported : ℕ → ℕ → ℕ → ℕ → ℕ → ℕ → ℕ → ℕ → ℕ → Reported
reported r raw headed padded end headers_extra headers_over padded_extra padded_over =
    record {
      returned = r;
      raw = raw;
      headed = headed;
      padded = padded;
      end = end;
      headers_extra = headers_extra;
      headers_over = headers_over;
      padded_extra = padded_extra;
      padded_over = padded_over;
    }

-- what C sees of the report
abbrev pub exported_report : Report → Reported
exported_report r =
    reported r.row r.raw r.headed r.padded r.end r.headers.extra r.headers.over r.padding.extra r.padding.over

-- each part of a report in its place
pub report_seen :
    let r : Report =
    record { row = 1; raw = 2; headed = 3; padded = 4; end = 5; headers = record { extra = 6; over = 7 }; padding = record { extra = 8; over = 9 } } in
    let l : Reported = reported 1 2 3 4 5 6 7 8 9 in
    (exported_report r ≡ l)
    × (l.returned ≡ 1) × (l.raw ≡ 2) × (l.headed ≡ 3) × (l.padded ≡ 4) × (l.end ≡ 5) × (l.headers_extra ≡ 6) × (l.headers_over ≡ 7)
    × (l.padded_extra ≡ 8) × (l.padded_over ≡ 9)
report_seen = (refl, refl, refl, refl, refl, refl, refl, refl, refl, refl)
