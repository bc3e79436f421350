-- What a draw asks for, and the live pointers after it: document 02, W10. Assumes nothing.
use Rattle.std.specs.Prelude.{ℕ, ◌+◌, ◌/◌, ◌%◌, ◌<◌, Bool, cond, List, [], ◌∷◌, ◌++◌, length, take, drop, ◌==◌, nat_lt, slice_index_or, Err, Ok}
use Rattle.store.specs.State.{Answer}
use Rattle.call_log.specs.declared.record.Call.{Call}
use Rattle.call_log.specs.declared.record.Call.TheVariants as call
use Rattle.workload.specs.declared.choosing.Choice.{Choice}
use Rattle.workload.specs.declared.choosing.Choice.TheVariants.{Allocate, Free, Store}

-- the position that the draw v picks among n pointers
abbrev pub position : ℕ → ℕ → ℕ
position v n = v / 256 % n

-- the draw v allocates, with n live pointers: v mod 4 is 0 or 1, and there are not 64; or it is 2 or 3, and there are none
unfoldable pub allocates : ℕ → ℕ → Bool
allocates v n = cond (nat_lt (v % 4) 2) (nat_lt n 64) (n == 0)

-- what the draw v asks for, with the live pointers in the order of their allocation
unfoldable pub choice_of : ℕ → List ℕ → Choice
choice_of v pointers =
    let i : ℕ = position v (length pointers) in
    let p : ℕ = slice_index_or pointers i 0 in
    cond (allocates v (length pointers)) (Allocate (1 + v / 256 % 97))
    (cond (v % 4 == 3) (Store p (v % 256))
    (Free i p))

-- the call that is made and recorded: types are 0, and a store has one byte
abbrev pub call_of : Choice → Call
call_of (Allocate size) = call.Allocate size 0
call_of (Free i p) = call.Free p
call_of (Store p byte) = call.Store p 1 byte

-- a list without what stands in position i; what stands behind it moves down
unfoldable pub remove_at : ℕ → List ℕ → List ℕ
remove_at i ps = take i ps ++ drop (i + 1) ps

-- the live pointers after an allocation: one more, unless it was declined
abbrev pub joined : Answer → List ℕ → List ℕ
joined (Ok p) ps = ps ++ (p ∷ [])
joined (Err r) ps = ps

-- the live pointers after the call and its answer
unfoldable pub pointers_after : Choice → Answer → List ℕ → List ℕ
pointers_after (Allocate size) a ps = joined a ps
pointers_after (Free i p) a ps = remove_at i ps
pointers_after (Store p byte) a ps = ps

-- n pointers can be renewed in a list of `places`: there is room for one more, or the one to take out is there
unfoldable pub HasRoom : ℕ → ℕ → Choice → Type 0
HasRoom places n (Allocate size) = n < places
HasRoom places n (Free i p) = i < n
HasRoom places n (Store p byte) = Unit
