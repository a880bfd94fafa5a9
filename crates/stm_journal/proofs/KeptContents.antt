-- One more content of disk and cache joins those that a file has had.
use Rattle.std.proofs.Common.{◌≡◌, ◌⊎◌, inl, inr, ⊎_elim, ℕ, zero, suc, ◌≤◌, List, [], ◌∷◌, ◌++◌, length, take, drop, refl, sym, ◌∙◌, subst, arith, length-append}
use Rattle.std.proofs.lemmas.List.{take_all}
use Rattle.stm_journal.specs.Device.{Cut, Elapses, Only, Torn, TornAppend, overwritten}
use Rattle.stm_journal.specs.Cached.{IsEither, HadEither, SinceThen}
use Rattle.stm_journal.specs.declared.cached.Content.{Content}
use Rattle.stm_journal.proofs.Crash.{append_all, append_none, appended, cut_done, torn_none, torn_written}

keeps : (past : List Content) (v : Content) (c : List ℕ) → HadEither past c → HadEither (past ++ v ∷ []) c
keeps [] v c had = absurd had
keeps (p ∷ past) v c (inl here) = inl here
keeps (p ∷ past) v c (inr there) = inr (keeps past v c there)

adds : (past : List Content) (v : Content) (c : List ℕ) → HadEither (past ++ v ∷ []) c → HadEither past c ⊎ IsEither v c
adds [] v c (inl here) = inr here
adds [] v c (inr none) = absurd none
adds (p ∷ past) v c (inl here) = inl (inl here)
adds (p ∷ past) v c (inr there) = ⊎_elim (λ had. inl (inr had)) (λ new. inr new) (adds past v c there)

newest : (past : List Content) (v : Content) (c : List ℕ) → IsEither v c → HadEither (past ++ v ∷ []) c
newest [] v c is = inl is
newest (p ∷ past) v c is = inr (newest past v c is)

drop_push : (t : ℕ) (past : List Content) (v : Content) → t ≤ length past → drop t (past ++ v ∷ []) ≡ drop t past ++ v ∷ []
drop_push zero past v le = refl
drop_push (suc t) [] v le = absurd (omega arith)
drop_push (suc t) (p ∷ past) v le = drop_push t past v (omega arith)

-- a copy of a content
module _ (v old : Content) (disk : v.disk.items ≡ old.disk.items) (cache : v.cache.items ≡ old.cache.items) where
  of_copy : (c : List ℕ) → IsEither v c → IsEither old c
  of_copy c (inl is) = inl (is ∙ disk)
  of_copy c (inr is) = inr (is ∙ cache)

  in_copy : (c : List ℕ) → IsEither old c → IsEither v c
  in_copy c (inl is) = inl (is ∙ sym disk)
  in_copy c (inr is) = inr (is ∙ sym cache)

  elapses_push : (past : List Content) (new : Content)
      → Elapses (length past) (length (past ++ v ∷ [])) (SinceThen past old) (SinceThen (past ++ v ∷ []) new) (IsEither new)
  elapses_push past new = record {
    later = omega (arith, length-append past (v ∷ []));
    nothing_else = λ t c le left.
        ⊎_elim (λ now. inr now)
        (λ had. inl (⊎_elim (λ was. inr was) (λ is. inl (of_copy c is)) (adds (drop t past) v c (subst (λ (l : List Content). HadEither l c) (drop_push t past v le) had))))
        left;
    keeps = λ t c le left.
        inr (subst (λ (l : List Content). HadEither l c) (sym (drop_push t past v le))
        (⊎_elim (λ now. newest (drop t past) v c (in_copy c now)) (keeps (drop t past) v c) left));
  }

  pub elapses_to : (past later : List Content) (new : Content) → later ≡ past ++ v ∷ []
      → Elapses (length past) (length later) (SinceThen past old) (SinceThen later new) (IsEither new)
  elapses_to past later new same =
      subst (λ (l : List Content). Elapses (length past) (length l) (SinceThen past old) (SinceThen l new) (IsEither new)) (sym same) (elapses_push past new)

-- what a cut of the cache leaves, if disk and cache have the same
module _ (p : Content) (n : ℕ) (within : n ≤ length p.cache.items) where
  uncut : (c : List ℕ) → c ≡ p.cache.items → Cut n p.cache.items c
  uncut c is =
      subst (λ f. Cut n p.cache.items f) (sym is)
      (record { no_shorter = within; front = take_all (length p.cache.items) p.cache.items (omega arith) })

  pub cut_leaves : (q : Content) → Only p.cache.items (IsEither p) → q.disk.items ≡ p.disk.items
      → (q.cache.items ≡ p.cache.items) ⊎ (q.cache.items ≡ take n p.cache.items)
      → (c : List ℕ) → IsEither q c → (x : List ℕ) × IsEither p x × Cut n x c
  cut_leaves q only disk cache c left = (
    p.cache.items,
    inr refl,
    ⊎_elim (λ is. uncut c (is ∙ disk ∙ only p.disk.items (inl refl)))
        (λ is. ⊎_elim (λ kept. uncut c (is ∙ kept)) (λ cut. cut_done n p.cache.items c within (is ∙ cut)) cache)
        left,
  )

-- what a write to the cache leaves
pub write_leaves : (p q : Content) (at : ℕ) (bytes : List ℕ) → at ≤ length p.cache.items → q.disk.items ≡ p.disk.items
    → q.cache.items ≡ overwritten at bytes p.cache.items
    → (c : List ℕ) → IsEither q c → (x : List ℕ) × IsEither p x × Torn at (length bytes) x c
write_leaves p q at bytes within disk cache c (inl is) =
    (p.disk.items, inl refl, subst (λ f. Torn at (length bytes) p.disk.items f) (sym (is ∙ disk)) (torn_none at (length bytes) p.disk.items))
write_leaves p q at bytes within disk cache c (inr is) = (p.cache.items, inr refl, torn_written at bytes p.cache.items c within (is ∙ cache))

-- what an append to the cache leaves, if disk and cache have the same
pub append_leaves : (p q : Content) (at : ℕ) (bytes : List ℕ) → at ≡ length p.cache.items → Only p.cache.items (IsEither p)
    → q.disk.items ≡ p.disk.items → q.cache.items ≡ overwritten at bytes p.cache.items
    → (c : List ℕ) → IsEither q c → TornAppend bytes p.cache.items c
append_leaves p q at bytes at_end only disk cache c (inl is) =
    subst (λ f. TornAppend bytes p.cache.items f) (sym (is ∙ disk ∙ only p.disk.items (inl refl))) (append_none bytes p.cache.items)
append_leaves p q at bytes at_end only disk cache c (inr is) =
    append_all bytes p.cache.items c (is ∙ appended p.cache.items at bytes q.cache.items at_end cache)

-- what one leaves that has written nothing
pub unwritten_leaves : (p q : Content) (bytes : List ℕ) → Only p.cache.items (IsEither p) → q.disk.items ≡ p.disk.items → q.cache.items ≡ p.cache.items
    → (c : List ℕ) → IsEither q c → TornAppend bytes p.cache.items c
unwritten_leaves p q bytes only disk cache c left =
    subst (λ f. TornAppend bytes p.cache.items f)
    (sym (⊎_elim (λ (is : c ≡ q.disk.items). is ∙ disk ∙ only p.disk.items (inl refl)) (λ (is : c ≡ q.cache.items). is ∙ cache) left))
    (append_none bytes p.cache.items)
