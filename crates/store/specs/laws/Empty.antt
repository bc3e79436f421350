-- Objects of no bytes: nothing is read or written through a tag that leads to one, whatever the other pointer of the call. (The refusal `Empty` is of lengths.)
-- Assumes nothing.
use Rattle.std.specs.Prelude.{ℕ, ◌+◌, ◌^◌, ◌<◌, ◌≡◌, refl, ltb, Err, Ok}
use Rattle.std.proofs.Common.{sym, ap, ◌∙◌, arith, ltb-true, ltb-false}
use Rattle.frame.specs.Pointers.{unpack}
use Rattle.block.specs.Layout.{size_at}
use Rattle.block.specs.laws.Booleans.{by_bool}
use Rattle.store.specs.State.{State, IsAccepted, comparison_number}
use Rattle.store.specs.Calls.{opening, located, accessed, good_width, load_answer, load, store_checks, fill_checks, copy_checks, text_at, copy_text_checks}
use Rattle.store.specs.Claims.{NoLoad, NoAccess}
use Rattle.store.specs.laws.Refusals.{refused_some, not-accepted}
use Rattle.store.specs.laws.Access.{empty_body, outside_body, width_range}
use Rattle.store.specs.laws.Load.{load_width, load-refused, load_leaves}
use Rattle.store.specs.laws.Store.{store_width, store-large, store_access, store_declined}
use Rattle.store.specs.laws.Fill.{fill_empty, fill_access, fill_declined}
use Rattle.store.specs.laws.Copy.{copy_empty, copy-refused, copy_access, copy_declined}
use Rattle.store.specs.laws.Compare.{compare_declined}
use Rattle.store.specs.laws.CopyText.{text_outside, copy_text_unread, copy_text-refused, copy_text_declined}
use Rattle.store.specs.declared.answer.Refusal.{Refusal}
use Rattle.store.specs.declared.answer.Refusal.TheVariants.{Empty, OutOfBounds, BadWidth, TooLarge}
use Rattle.store.specs.State.{Answer}

-- the tests refuse
abbrev Declines : Answer → Type 0
Declines a = (r : Refusal) × (Err r ≡ a)

module _ (s p : ℕ) (x : State) (h : ℕ) (o : opening x ≡ Ok s) (l : located s (unpack p) x ≡ Ok h) (z : size_at x.image h ≡ 0) where
  -- row 13, for any number of bytes
  no_byte : (n : ℕ) → 0 < n → accessed s (unpack p) n x ≡ Err OutOfBounds
  no_byte n g = sym (outside_body s (unpack p) n x h l (empty_body x.image h (unpack p) n z g))

  -- and for a text, by its first byte
  no_text : text_at s (unpack p) x ≡ Err OutOfBounds
  no_text = sym (text_outside s (unpack p) x h l (empty_body x.image h (unpack p) 1 z (omega arith)))

  -- the tests of each call

  store_declines : (width v : ℕ) → Declines (store_checks p width v x)
  store_declines width v =
      by_bool (good_width width)
      (λ g.
      by_bool (ltb v (256 ^ width))
      (λ t. (OutOfBounds, sym (no_byte width (width_range width g).0) ∙ store_access x s o p width v g t))
      (λ t. (TooLarge, store-large x s o p width v g t)))
      (λ g. (BadWidth, store_width x s o p width v g))

  fill_declines : (n : ℕ) → Declines (fill_checks p n x)
  fill_declines n =
      by_bool (ltb 0 n)
      (λ g. let k = ltb-true 0 n g in (OutOfBounds, sym (no_byte n k) ∙ fill_access x s o p n k))
      (λ g. (Empty, fill_empty x s o p n (omega (arith, ltb-false 0 n g))))

  -- p is the target, or compare's left
  to_declines : (source n : ℕ) → Declines (copy_checks p source n x)
  to_declines source n =
      by_bool (ltb 0 n)
      (λ g. let k = ltb-true 0 n g in (OutOfBounds, copy-refused x s o p source n k OutOfBounds (no_byte n k)))
      (λ g. (Empty, copy_empty x s o p source n (omega (arith, ltb-false 0 n g))))

  -- p is the source, or compare's right
  from_declines : (target n : ℕ) → Declines (copy_checks target p n x)
  from_declines target n =
      by_bool (ltb 0 n) (λ g. go (ltb-true 0 n g) (accessed s (unpack target) n x) refl)
      (λ g. (Empty, copy_empty x s o target p n (omega (arith, ltb-false 0 n g))))
    where
      go : 0 < n → (a : Answer) → accessed s (unpack target) n x ≡ a → Declines (copy_checks target p n x)
      go k (Err r) a = (r, copy-refused x s o target p n k r a)
      go k (Ok at) a = (OutOfBounds, sym (no_byte n k) ∙ copy_access x s o target p n k at a)

  text_to_declines : (source : ℕ) → Declines (copy_text_checks p source x)
  text_to_declines source = go (text_at s (unpack source) x) refl
    where
      go : (a : Answer) → text_at s (unpack source) x ≡ a → Declines (copy_text_checks p source x)
      go (Err r) t = (r, copy_text_unread x s o p source r t)
      go (Ok n) t = (OutOfBounds, copy_text-refused x s o p source n t (n + 1) refl OutOfBounds (no_byte (n + 1) (omega arith)))

  -- No call is accepted.

  pub empty_load : NoLoad p x
  empty_load width =
      by_bool (good_width width)
      (λ g. refuses OutOfBounds (load-refused x s o p width g OutOfBounds (no_byte width (width_range width g).0)))
      (λ g. refuses BadWidth (load_width x s o p width g))
    where
      refuses : (r : Refusal) → Err r ≡ load_answer p width x → IsAccepted (load p width x) → ⊥
      refuses r q = not-accepted r (ap (λ (a : Answer). record { answer = a; after = x }) q ∙ sym (load_leaves p width x))

  pub empty_access : NoAccess p x
  empty_access =
      record {
        stores = λ width v. let (r, d) = store_declines width v in not-accepted r (store_declined p width v x r (sym d));
        fills = λ n byte. let (r, d) = fill_declines n in not-accepted r (fill_declined p n byte x r (sym d));
        copies_to = λ source n. let (r, d) = to_declines source n in not-accepted r (copy_declined p source n x r (sym d));
        copies_from = λ target n. let (r, d) = from_declines target n in not-accepted r (copy_declined target p n x r (sym d));
        compares_left = λ right n e. let (r, d) = to_declines right n in refused_some r (ap comparison_number (compare_declined p right n x r (sym d)) ∙ e);
        compares_right = λ left n e. let (r, d) = from_declines left n in refused_some r (ap comparison_number (compare_declined left p n x r (sym d)) ∙ e);
        texts_to = λ source. let (r, d) = text_to_declines source in not-accepted r (copy_text_declined p source x r (sym d));
        texts_from = λ target. not-accepted OutOfBounds (copy_text_declined target p x OutOfBounds (sym (copy_text_unread x s o target p OutOfBounds no_text)));
      }
