-- Frames and frame numbers. Assumes nothing.
use Rattle.std.specs.Prelude.{ℕ, zero, suc, ◌+◌, ◌-◌, ◌*◌, ◌/◌, ◌^◌, ◌≤◌, ◌<◌, ◌≡◌, refl, ◌↔◌}
use Rattle.std.proofs.Common.{zero-le, suc-le-suc, sym, ap, ◌∙◌, zero-add, suc-add, le_refl, le_of_lt, lt_of_not-le, div-one, div-lt_iff_lt-mul, le-div_iff_mul-le, add-sub_of_le, mul_comm, arith, pow_pos, shr-shr, eq-eqb, ne_eqb}
use Rattle.std.proofs.Math.Nat.{pow-succ', div-div-eq-div-mul}
use Rattle.std.proofs.Math.Decide.{ℕ_discrete}
use Rattle.std.proofs.Math.Pow.{shr_mono}
use Rattle.frame.specs.Frame.{frame_number_in, frame_number}

-- The recursion: any number of halvings from a + b on gives the same.

in_eq : (k a b : ℕ) → a ≡ b → frame_number_in k a b ≡ 0
unfolding frame_number_in
in_eq zero a b e = refl
in_eq (suc k) a b e = rw (frame_number_in, eq-eqb a b e)

in_ne : (k a b : ℕ) → (a ≡ b → ⊥) → frame_number_in (suc k) a b ≡ suc (frame_number_in k (a / 2) (b / 2))
unfolding frame_number_in
in_ne k a b f = rw (frame_number_in, ne_eqb a b f)

in_step : (k j a b : ℕ) → frame_number_in k (a / 2) (b / 2) ≡ frame_number_in j (a / 2) (b / 2) → Dec (a ≡ b) → frame_number_in (suc k) a b ≡ frame_number_in (suc j) a b
in_step k j a b ih (yes e) = in_eq (suc k) a b e ∙ sym (in_eq (suc j) a b e)
in_step k j a b ih (no f) = in_ne k a b f ∙ ap suc ih ∙ sym (in_ne j a b f)

-- the bound is never used up
pub in_enough : (k j a b : ℕ) → a + b ≤ k → a + b ≤ j → frame_number_in k a b ≡ frame_number_in j a b
in_enough zero j a b hk hj = in_eq zero a b (omega arith) ∙ sym (in_eq j a b (omega arith))
in_enough (suc k) zero a b hk hj = in_eq (suc k) a b (omega arith) ∙ sym (in_eq zero a b (omega arith))
in_enough (suc k) (suc j) a b hk hj =
    in_step k j a b (in_enough k j (a / 2) (b / 2) (omega arith) (omega arith)) (ℕ_discrete a b)

-- document 01's two cases
pub number_eq : (a b : ℕ) → a ≡ b → frame_number a b ≡ 0
unfolding frame_number
number_eq a b e = in_eq (a + b) a b e

pub number_ne : (a b : ℕ) → (a ≡ b → ⊥) → frame_number a b ≡ suc (frame_number (a / 2) (b / 2))
unfolding frame_number
number_ne a b f =
    in_enough (a + b) (suc (a + b)) a b (omega arith) (omega arith) ∙ in_ne (a + b) a b f
    ∙ ap suc (in_enough (a + b) (a / 2 + b / 2) (a / 2) (b / 2) (omega arith) (omega arith))

half_shr : (a n : ℕ) → a / 2 / 2 ^ n ≡ a / 2 ^ suc n
half_shr a n = div-div-eq-div-mul a 2 (2 ^ n) ∙ ap (λ (x : ℕ). a / x) (sym (pow-succ' 2 n))

shr_half : (a n : ℕ) → a / 2 ^ n / 2 ≡ a / 2 ^ suc n
shr_half a n = div-div-eq-div-mul a (2 ^ n) 2 ∙ ap (λ (x : ℕ). a / x) (mul_comm (2 ^ n) 2 ∙ sym (pow-succ' 2 n))

-- The frame number is the least exponent whose frame holds both.

holds-step : (a b : ℕ) → a / 2 / 2 ^ frame_number (a / 2) (b / 2) ≡ b / 2 / 2 ^ frame_number (a / 2) (b / 2) → Dec (a ≡ b) → a / 2 ^ frame_number a b ≡ b / 2 ^ frame_number a b
holds-step a b ih (yes e) = ap (λ (x : ℕ). x / 2 ^ frame_number a b) e
holds-step a b ih (no f) = rw (number_ne a b f, ← half_shr a, ← half_shr b) ih

holds_in : (k a b : ℕ) → a + b ≤ k → a / 2 ^ frame_number a b ≡ b / 2 ^ frame_number a b
holds_in zero a b h = let e : a ≡ b = omega arith in ap (λ (x : ℕ). x / 2 ^ frame_number a b) e
holds_in (suc k) a b h = holds-step a b (holds_in k (a / 2) (b / 2) (omega arith)) (ℕ_discrete a b)

-- its frame holds both
pub number_holds : (a b : ℕ) → a / 2 ^ frame_number a b ≡ b / 2 ^ frame_number a b
number_holds a b = holds_in (a + b) a b (le_refl (a + b))

least_step : (n a b : ℕ) → frame_number (a / 2) (b / 2) ≤ n → Dec (a ≡ b) → frame_number a b ≤ suc n
least_step n a b ih (yes e) = rw (number_eq a b e) zero-le
least_step n a b ih (no f) = rw (number_ne a b f) (suc-le-suc ih)

-- and no smaller frame does
pub number_least : (n a b : ℕ) → a / 2 ^ n ≡ b / 2 ^ n → frame_number a b ≤ n
number_least zero a b h = rw (number_eq a b (sym (div-one a) ∙ h ∙ div-one b)) zero-le
number_least (suc n) a b h = least_step n a b (number_least n (a / 2) (b / 2) (half_shr a n ∙ h ∙ sym (half_shr b n))) (ℕ_discrete a b)

-- the halvings below an exponent at which they differ, all at once
pub number_above : (n a b : ℕ) → (a / 2 ^ n ≡ b / 2 ^ n → ⊥) → frame_number a b ≡ n + frame_number (a / 2 ^ n) (b / 2 ^ n)
number_above zero a b d = rw (div-one a, div-one b) (sym (zero-add (frame_number a b)))
number_above (suc n) a b d =
    number_ne a b (λ e. d (ap (λ (x : ℕ). x / 2 ^ suc n) e))
    ∙ ap suc (number_above n (a / 2) (b / 2) (λ e. d (sym (half_shr a n) ∙ e ∙ half_shr b n)))
    ∙ rw (half_shr a n, half_shr b n) (sym (suc-add n (frame_number (a / 2 ^ suc n) (b / 2 ^ suc n))))

-- a larger frame holds both too
pub wider : (a b m n : ℕ) → m ≤ n → a / 2 ^ m ≡ b / 2 ^ m → a / 2 ^ n ≡ b / 2 ^ n
wider a b m n l h = rw (← add-sub_of_le l, ← shr-shr a m, ← shr-shr b m, h) refl

-- so one comparison in constant time decides whether a frame holds both
pub number_iff : (n a b : ℕ) → (frame_number a b ≤ n) ↔ (a / 2 ^ n ≡ b / 2 ^ n)
number_iff n a b = ((λ l. wider a b (frame_number a b) n l (number_holds a b)), number_least n a b)

-- what lies between two addresses of a frame lies in it
pub between : (a x b n : ℕ) → a ≤ x → x ≤ b → frame_number a b ≤ n → x / 2 ^ n ≡ a / 2 ^ n
between a x b n l u k =
    let q = (number_iff n a b).0 k in
    let low = shr_mono n l in
    let high = shr_mono n u in
    omega arith

-- the middle of the frame of 2^n bytes that holds a
abbrev middle : ℕ → ℕ → ℕ
middle n a = (a / 2 ^ n * 2 + 1) * 2 ^ (n - 1)

halves : (x y q : ℕ) → x ≤ y → (x ≡ y → ⊥) → x / 2 ≡ q → y / 2 ≡ q → (x < q * 2 + 1) × (q * 2 + 1 ≤ y)
halves x y q l f hx hy = omega arith

-- a lies below the middle of the smallest frame that holds both, and b does not
straddle : (a b : ℕ) → a < b → 0 < frame_number a b → (a < middle (frame_number a b) a) × (middle (frame_number a b) a ≤ b)
straddle a b l p =
    let n = frame_number a b - 1 in
    let hn : suc n ≡ frame_number a b = omega arith in
    let q = a / 2 ^ frame_number a b in
    let hx : a / 2 ^ n / 2 ≡ q = rw (shr_half, hn) refl in
    let hy : b / 2 ^ n / 2 ≡ q = rw (shr_half, hn) (sym (number_holds a b)) in
    let apart : a / 2 ^ n ≡ b / 2 ^ n → ⊥ = λ e. let k = number_least n a b e in omega arith in
    let d = halves (a / 2 ^ n) (b / 2 ^ n) q (shr_mono n (le_of_lt l)) apart hx hy in
    ((div-lt_iff_lt-mul (pow_pos n)).0 d.0, (le-div_iff_mul-le (pow_pos n)).0 d.1)

-- two stretches, one behind the other, never have both the same frame number and the same frame
pub frames_apart :
    (a₁ b₁ a₂ b₂ : ℕ) → a₁ < b₁ → b₁ ≤ a₂ → a₂ < b₂ → frame_number a₁ b₁ ≡ frame_number a₂ b₂
    → a₁ / 2 ^ frame_number a₁ b₁ ≡ a₂ / 2 ^ frame_number a₁ b₁ → ⊥
frames_apart a₁ b₁ a₂ b₂ l₁ l l₂ n q =
    let N = frame_number a₁ b₁ in
    let p : 0 < N = lt_of_not-le (λ g. let e = (number_iff 0 a₁ b₁).0 g in omega (arith, div-one a₁, div-one b₁)) in
    let m : middle N a₁ ≡ middle (frame_number a₂ b₂) a₂ = ap (λ (x : ℕ). (x * 2 + 1) * 2 ^ (N - 1)) q ∙ ap (λ (x : ℕ). middle x a₂) n in
    let below = (straddle a₁ b₁ l₁ p).1 in
    let above = (straddle a₂ b₂ l₂ (omega arith)).0 in
    omega arith
