-- One turn of the cutting.
use Rattle.std.proofs.Common.{◌≡◌, ℕ, zero, suc, ◌+◌, ◌-◌, ◌<◌, ◌≤◌, List, [], ◌∷◌, ◌++◌, length, drop, refl, sym, ap, ◌∙◌, arith, append_assoc, append-nil, length-drop, Result, Ok, Err}
use Rattle.std.proofs.lemmas.List.{drop-drop}
use Rattle.stm_parse.specs.declared.tokenizer.TokenClass.{TokenClass}
use Rattle.stm_parse.specs.declared.tokenizer.Token.{Token}
use Rattle.stm_parse.specs.Front.{Front}
use Rattle.stm_parse.specs.Front as front
use Rattle.stm_parse.specs.declared.fault.ParseFault.{ParseFault}
use Rattle.stm_parse.specs.Tokenizer.{front_of, with_front, next, cut, SpansRise}

cut_skip : (k place : ℕ) (bytes : List ℕ) → k ≤ length bytes → cut k place bytes ≡ cut 0 (place + k) (drop k bytes)
unfolding cut
cut_skip zero place bytes h = let e : place ≡ place + 0 = omega arith in ap (λ p. cut 0 p bytes) e
cut_skip (suc k) place [] h = absurd (omega arith)
cut_skip (suc k) place (b ∷ bytes) h =
    let e : place + 1 + k ≡ place + suc k = omega arith in cut_skip k (place + 1) bytes (omega arith) ∙ ap (λ p. cut 0 p (drop k bytes)) e

cut_next : (rest : List ℕ) (place : ℕ) (f : Front) → 0 < length rest → f ≡ front_of rest → cut 0 place rest ≡ next f place (λ k. cut k (place + 1) (drop 1 rest))
unfolding cut
cut_next [] place f h e = absurd (omega arith)
cut_next (b ∷ rest) place f h e = ap (λ f. next f place (λ k. cut k (place + 1) rest)) (sym e)

with_more : (out : List Token) (t : Token) (r : Result (List Token) ParseFault) → with_front out (with_front (t ∷ []) r) ≡ with_front (out ++ t ∷ []) r
with_more out t (Ok ts) = ap Ok (sym (append_assoc out (t ∷ []) ts))
with_more out t (Err e) = refl

module _ (bytes : List ℕ) (out : List Token) (place : ℕ) (h : place < length bytes) (f : Front) (e : f ≡ front_of (drop place bytes)) where
  more : 0 < length (drop place bytes)
  more = omega (arith, length-drop place bytes)

  pub turn_blank : f ≡ front.Blank → with_front out (cut 0 place (drop place bytes)) ≡ with_front out (cut 0 (place + 1) (drop (place + 1) bytes))
  turn_blank q = ap (with_front out) (cut_next (drop place bytes) place front.Blank more (sym q ∙ e) ∙ ap (cut 0 (place + 1)) (drop-drop 1 place bytes))

  pub turn_found : (kind : TokenClass) (n : ℕ) → f ≡ front.Found kind n → 0 < n → n ≤ length bytes - place → with_front out (cut 0 place (drop place bytes)) ≡ with_front (out ++ record { kind = kind; start = place; end = place + n } ∷ []) (cut 0 (place + n) (drop (place + n) bytes))
  turn_found kind n q a b =
      let t : Token = record { kind = kind; start = place; end = place + n } in
      let p : place + 1 + (n - 1) ≡ place + n = omega arith in
      let l : n - 1 ≤ length (drop 1 (drop place bytes)) = omega (arith, length-drop 1 (drop place bytes), length-drop place bytes) in
      let m : place + (1 + (n - 1)) ≡ place + n = omega arith in
      ap (with_front out) (cut_next (drop place bytes) place (front.Found kind n) more (sym q ∙ e) ∙ ap (with_front (t ∷ [])) (cut_skip (n - 1) (place + 1) (drop 1 (drop place bytes)) l))
      ∙ with_more out t (cut 0 (place + 1 + (n - 1)) (drop (n - 1) (drop 1 (drop place bytes))))
      ∙ ap (λ r. with_front (out ++ t ∷ []) r) (ap (λ p. cut 0 p (drop (n - 1) (drop 1 (drop place bytes)))) p ∙ ap (cut 0 (place + n)) (drop-drop (n - 1) 1 (drop place bytes) ∙ drop-drop (1 + (n - 1)) place bytes ∙ ap (λ k. drop k bytes) m))

  pub turn_bad : (g : Front) (x : ParseFault) → f ≡ g → ((go : ℕ → Result (List Token) ParseFault) → next g place go ≡ Err x) → with_front out (cut 0 place (drop place bytes)) ≡ Err x
  turn_bad g x q n = ap (with_front out) (cut_next (drop place bytes) place g more (sym q ∙ e) ∙ n _)

pub cut_end : (bytes : List ℕ) (out : List Token) (place : ℕ) → length bytes ≤ place → with_front out (cut 0 place (drop place bytes)) ≡ Ok out
unfolding cut
cut_end bytes out place h = at_end (drop place bytes) (omega (arith, length-drop place bytes))
  where
    at_end : (rest : List ℕ) → length rest ≡ 0 → with_front out (cut 0 place rest) ≡ Ok out
    at_end [] e = ap Ok (append-nil out)
    at_end (b ∷ rest) e = absurd (omega arith)

-- spans within a greater text
pub rise_more : (p m n : ℕ) (ts : List Token) → m ≤ n → SpansRise p m ts → SpansRise p n ts
rise_more p m n [] l h = omega arith
rise_more p m n (t ∷ ts) l h = (h.0, h.1, omega (arith, h.2), rise_more t.end m n ts l h.3)

-- one more token
pub rise_snoc : (p m : ℕ) (ts : List Token) (t : Token) → m ≤ t.start → t.start < t.end → SpansRise p m ts → SpansRise p t.end (ts ++ t ∷ [])
rise_snoc p m [] t l k h = (omega arith, k, omega arith, omega arith)
rise_snoc p m (s ∷ ts) t l k h = (h.0, h.1, omega (arith, h.2), rise_snoc s.end m ts t l k h.3)
