-- What a call is given and what it leaves: document 01, "Why a call was declined", and document 02's further rows. Assumes nothing.
use Rattle.std.specs.Prelude.{ℕ, ◌+◌, ◌-◌, ◌≡◌, Bool, cond, List, ℤ, pos, Err, Ok, Result}
use Rattle.std.specs.Result.{result_unwrap_or}
use Rattle.block.specs.Order.{sign}
use Rattle.store.specs.declared.answer.Refusal.{Refusal}
use Rattle.store.specs.declared.answer.Refusal.TheVariants.{BadExponent, BadLength, TooFewEntries, BadSuperblock, ShortTable, Empty, Unsound, NoSpace, EntryTaken, BadTag, Dangling, Leaves, OutOfBounds, BadWidth, NotBase, TooLarge, Unterminated, EntryLost, WrongTotal, BadDescriptor, Undescribed}
use Rattle.store.specs.declared.measuring.BodyEnds.{BodyEnds}
use Rattle.block.specs.declared.walk.Counts.{Counts}
use Rattle.std.specs.declared.cmp.Ordering.{Ordering}

-- document 01's number of a refusal, or document 02's: 17 to 19 are a call log's, 23 a workload's
abbrev pub refusal_number : Refusal → ℕ
refusal_number BadExponent = 1
refusal_number BadLength = 2
refusal_number TooFewEntries = 3
refusal_number BadSuperblock = 4
refusal_number ShortTable = 5
refusal_number Empty = 6
refusal_number Unsound = 7
refusal_number NoSpace = 8
refusal_number EntryTaken = 9
refusal_number BadTag = 10
refusal_number Dangling = 11
refusal_number Leaves = 12
refusal_number OutOfBounds = 13
refusal_number BadWidth = 14
refusal_number NotBase = 15
refusal_number TooLarge = 16
refusal_number Unterminated = 20
refusal_number EntryLost = 21
refusal_number WrongTotal = 22
refusal_number BadDescriptor = 24
refusal_number Undescribed = 25

-- what a call answers: a number, 0 where it has none to give; or why there is none
abbrev pub Answer : Type 0
Answer = Result ℕ Refusal

-- how the left bytes of a compare stand to the right ones; or why they were not compared
abbrev pub Comparison : Type 0
Comparison = Result Ordering Refusal

-- the distances from both ends of a body; or why they were not measured
abbrev pub Measurement : Type 0
Measurement = Result BodyEnds Refusal

-- the memory in use; or why it was not counted
abbrev pub Usage : Type 0
Usage = Result Counts Refusal

-- the number that a call returns: 0 where it is accepted
abbrev pub returned : {A : Type 0} → Result A Refusal → ℕ
returned (Ok v) = 0
returned (Err r) = refusal_number r

-- the value that it gives: 0 where it has none, or is refused
abbrev pub value : Answer → ℕ
value a = result_unwrap_or a 0

-- the number that tally returns: 0 where it is accepted
abbrev pub usage_number : Usage → ℕ
usage_number = returned

-- a tally of so many live objects, and of live, free and overhead bytes
abbrev pub usage_of : ℕ → ℕ → ℕ → ℕ → Usage
usage_of objects live free overhead = Ok (record { objects = objects; live = live; free = free; overhead = overhead })

-- the live objects that it gives: 0 where it is refused
abbrev pub live_objects : Usage → ℕ
live_objects (Ok c) = c.objects
live_objects (Err r) = 0

-- the live bytes that it gives: 0 where it is refused
abbrev pub live_bytes : Usage → ℕ
live_bytes (Ok c) = c.live
live_bytes (Err r) = 0

-- the free bytes that it gives: 0 where it is refused
abbrev pub free_bytes : Usage → ℕ
free_bytes (Ok c) = c.free
free_bytes (Err r) = 0

-- the overhead bytes that it gives: 0 where it is refused
abbrev pub overhead_bytes : Usage → ℕ
overhead_bytes (Ok c) = c.overhead
overhead_bytes (Err r) = 0

-- live, free and overhead bytes are all bytes behind the superblock of an image of L bytes
abbrev pub Balances : ℕ → Usage → Type 0
Balances L u = live_bytes u + free_bytes u + overhead_bytes u ≡ L - 16

-- the number that compare returns: 0 where it is accepted
abbrev pub comparison_number : Comparison → ℕ
comparison_number = returned

-- the value that it gives: 0 where it is refused
abbrev pub comparison_value : Comparison → ℤ
comparison_value (Ok o) = sign o
comparison_value (Err r) = pos 0

-- the number that distances returns: 0 where it is accepted
abbrev pub distances_number : Measurement → ℕ
distances_number = returned

-- these distances from the start and to the end
abbrev pub measured_as : ℤ → ℤ → Measurement
measured_as a b = Ok (record { from_start = a; to_end = b })

-- the distance from the start that it gives: 0 where it is refused
abbrev pub start_distance : Measurement → ℤ
start_distance (Ok d) = d.from_start
start_distance (Err r) = pos 0

-- the distance to the end that it gives: 0 where it is refused
abbrev pub end_distance : Measurement → ℤ
end_distance (Ok d) = d.to_end
end_distance (Err r) = pos 0

-- An image with its frame table.
pub record State : Type 0 where
  pub image : List ℕ
  pub table : List ℕ

-- an image and a table, as a state
abbrev pub state : List ℕ → List ℕ → State
state image table = record { image = image; table = table }

-- What a call answers, and the image and table that it leaves.
pub record Outcome : Type 0 where
  pub answer : Answer
  pub after : State

-- an answer, with what is left
abbrev pub outcome : Answer → List ℕ → List ℕ → Outcome
outcome a image table = record { answer = a; after = state image table }

-- the call is accepted
abbrev pub IsAccepted : Outcome → Type 0
IsAccepted r = returned r.answer ≡ 0

-- refused with r where the test fails
abbrev pub demand : Bool → Refusal → Answer → Answer
demand ok r next = cond ok next (Err r)

-- the next test, on the number that this one found
abbrev pub and_then : Answer → (ℕ → Answer) → Answer
and_then (Ok v) next = next v
and_then (Err r) next = Err r

-- a refusal leaves the state as it was
abbrev pub refuse : Refusal → State → Outcome
refuse r x = record { answer = Err r; after = x }

-- refused, or the call goes on with the number that its tests found
abbrev pub conclude : State → Answer → (ℕ → Outcome) → Outcome
conclude x (Ok v) next = next v
conclude x (Err r) next = refuse r x
