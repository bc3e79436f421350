-- Wrapper frames, places in a slot, and table entries. Assumes nothing.
use Rattle.std.specs.Prelude.{ℕ, ◌+◌, ◌-◌, ◌*◌, ◌/◌, ◌%◌, ◌^◌, ◌≤◌, ◌<◌, ◌≡◌, ◌↔◌}
use Rattle.std.proofs.Common.{sym, ap, ◌∙◌, lt_of_not-le, div-mul-le_self, mul_assoc, mul-div_cancel, arith, pow_pos, pow-add}
use Rattle.std.proofs.Math.Nat.{mod-eq-sub-div-mul}
use Rattle.std.proofs.Math.Pow.{shr_mono}
use Rattle.frame.specs.Frame.{frame_start}
use Rattle.frame.specs.laws.Frames.{number_iff, number_least, between, frames_apart}
use Rattle.frame.specs.Tags.{first_held, last_held, wrapper, used_entries, entry_at, entry_of}

-- The wrapper frame.

-- it is the smallest frame that holds the first byte and the last
pub wrapper_iff : (n h size : ℕ) → (wrapper h size ≤ n) ↔ (first_held h / 2 ^ n ≡ last_held h size / 2 ^ n)
unfolding wrapper
wrapper_iff n h size = number_iff n (first_held h) (last_held h size)

-- every address from h to e stands in it, and in every larger frame of h
pub wrapper-holds : (n h size a : ℕ) → h ≤ a → a ≤ last_held h size → wrapper h size ≤ n → a / 2 ^ n ≡ h / 2 ^ n
unfolding wrapper
wrapper-holds n h size a l u k =
    between (first_held h) a (last_held h size) n (omega arith) u k
    ∙ sym (between (first_held h) h (last_held h size) n (omega arith) (omega arith) k)

pub wrapper-at_least : (h size : ℕ) → 5 ≤ wrapper h size
wrapper-at_least h size = lt_of_not-le (λ g. let q = (wrapper_iff 4 h size).0 g in omega arith)

pub wrapper-at_most : (h size : ℕ) → h + 16 + size ≤ 2 ^ 30 → wrapper h size ≤ 31
unfolding wrapper
wrapper-at_most h size u = number_least 31 (first_held h) (last_held h size) (omega arith)

-- Small-framed objects: the tag number leads back to the header from any address of its slot.

pub slot_place : (s h : ℕ) → h - frame_start s h ≡ h % 2 ^ s
slot_place s h = sym (mod-eq-sub-div-mul h (2 ^ s))

pub slot_leads : (s h a : ℕ) → a / 2 ^ s ≡ h / 2 ^ s → frame_start s a + (h - frame_start s h) ≡ h
slot_leads s h a q =
    let e : frame_start s a ≡ frame_start s h = ap (λ (x : ℕ). x * 2 ^ s) q in
    let l = div-mul-le_self h (2 ^ s) in
    omega arith

-- Large-framed objects: table entries.

-- every address of a frame has the same entry
pub entry_same : (s n a b : ℕ) → a / 2 ^ n ≡ b / 2 ^ n → entry_at s n a ≡ entry_at s n b
unfolding entry_at
entry_same s n a b q = rw q

-- a frame above the slot's starts at a division
start_divided : (s n a : ℕ) → s < n → frame_start n a / 2 ^ (s + 1) * 2 ^ (s + 1) ≡ frame_start n a
start_divided s n a l =
    let d = n - (s + 1) in
    let k : d + (s + 1) ≡ n = omega arith in
    let e : frame_start n a ≡ a / 2 ^ n * 2 ^ d * 2 ^ (s + 1) =
    ap (λ (x : ℕ). a / 2 ^ n * x) (ap (λ (x : ℕ). 2 ^ x) (sym k) ∙ pow-add 2 d (s + 1)) ∙ sym (mul_assoc (a / 2 ^ n) (2 ^ d) (2 ^ (s + 1))) in
    rw e (ap (λ (x : ℕ). x * 2 ^ (s + 1)) (mul-div_cancel (a / 2 ^ n * 2 ^ d) (pow_pos (s + 1))))

row_column : (q₁ q₂ s n₁ n₂ : ℕ) → s < n₁ → s < n₂ → n₁ ≤ s + 48 → n₂ ≤ s + 48
    → 48 * q₁ + (n₁ - s - 1) ≡ 48 * q₂ + (n₂ - s - 1) → (q₁ ≡ q₂) × (n₁ ≡ n₂)
row_column q₁ q₂ s n₁ n₂ l₁ l₂ u₁ u₂ e = omega arith

-- an entry tells its frame: the start and the exponent
pub entry_frame : (s n₁ a₁ n₂ a₂ : ℕ) → s < n₁ → s < n₂ → n₁ ≤ s + 48 → n₂ ≤ s + 48
    → entry_at s n₁ a₁ ≡ entry_at s n₂ a₂ → (frame_start n₁ a₁ ≡ frame_start n₂ a₂) × (n₁ ≡ n₂)
unfolding entry_at
entry_frame s n₁ a₁ n₂ a₂ l₁ l₂ u₁ u₂ e =
    let r = row_column (frame_start n₁ a₁ / 2 ^ (s + 1)) (frame_start n₂ a₂ / 2 ^ (s + 1)) s n₁ n₂ l₁ l₂ u₁ u₂ e in
    (sym (start_divided s n₁ a₁ l₁) ∙ ap (λ (x : ℕ). x * 2 ^ (s + 1)) r.0 ∙ start_divided s n₂ a₂ l₂, r.1)

-- two objects, one behind the other, never have both the same exponent and the same wrapper frame
pub wrappers_apart : (h₁ size₁ h₂ size₂ : ℕ) → h₁ + 16 + size₁ ≤ h₂ → wrapper h₁ size₁ ≡ wrapper h₂ size₂
    → h₁ / 2 ^ wrapper h₁ size₁ ≡ h₂ / 2 ^ wrapper h₁ size₁ → ⊥
unfolding wrapper
wrappers_apart h₁ size₁ h₂ size₂ behind n q =
    let N = wrapper h₁ size₁ in
    let first₁ = between (first_held h₁) h₁ (last_held h₁ size₁) N (omega arith) (omega arith) (omega arith) in
    let first₂ = between (first_held h₂) h₂ (last_held h₂ size₂) N (omega arith) (omega arith) (omega arith) in
    frames_apart (first_held h₁) (last_held h₁ size₁) (first_held h₂) (last_held h₂ size₂) (omega arith) (omega arith) (omega arith) n (sym first₁ ∙ q ∙ first₂)

-- the entry of a frame that starts in the image is a used one
pub entry_used : (s n L a : ℕ) → n ≤ 31 → frame_start n a < L → entry_at s n a < used_entries s L
unfolding entry_at used_entries
entry_used s n L a u k =
    let q = shr_mono {a = frame_start n a} {b = L - 1} (s + 1) (omega arith) in
    omega arith

-- so the entry of an object that lies in the image is one
pub object_entry_used : (s L h size : ℕ) → h + 16 + size ≤ L → L ≤ 2 ^ 30 → entry_of s h size < used_entries s L
object_entry_used s L h size l u =
    entry_used s (wrapper h size) L h (wrapper-at_most h size (omega arith)) (omega (arith, div-mul-le_self h (2 ^ wrapper h size)))
