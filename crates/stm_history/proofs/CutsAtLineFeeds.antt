-- Bytes are cut at line feeds in one way.
use Rattle.std.proofs.Common.{◌≡◌, ℕ, suc, ◌<◌, List, [], ◌∷◌, ◌++◌, length, refl, sym, ap, ◌∙◌, arith}
use Rattle.stm_history.specs.Progress.{NoFeed}
use Rattle.stm_event_lines.specs.Fits.{IsOneLine}

abbrev head : List ℕ → ℕ
head [] = 0
head (x ∷ xs) = x

abbrev tail : List ℕ → List ℕ
tail [] = []
tail (x ∷ xs) = xs

pub record IsCut (xs a ys b : List ℕ) : Type 0 where
  pub line : xs ≡ ys
  pub rest : a ≡ b

cut_more : (x y : ℕ) (xs a ys b : List ℕ) → x ≡ y → IsCut xs a ys b → IsCut (x ∷ xs) a (y ∷ ys) b
cut_more x y xs a ys b e c = record { line = ap (λ z. z ∷ xs) e ∙ ap (λ zs. y ∷ zs) c.line; rest = c.rest }

-- a line without a feed, and what follows its feed
pub cut_unique : (xs a ys b : List ℕ) → NoFeed xs → NoFeed ys → xs ++ 10 ∷ a ≡ ys ++ 10 ∷ b → IsCut xs a ys b
cut_unique [] a [] b h k e = record { line = refl; rest = ap tail e }
cut_unique [] a (y ∷ ys) b h k e = absurd (k.0 (sym (ap head e)))
cut_unique (x ∷ xs) a [] b h k e = absurd (h.0 (ap head e))
cut_unique (x ∷ xs) a (y ∷ ys) b h k e = cut_more x y xs a ys b (ap head e) (cut_unique xs a ys b h.1 k.1 (ap tail e))

-- no feed comes at a place that a text without one covers
pub no_cut : (xs more ys b : List ℕ) → NoFeed xs → length ys < length xs → xs ++ more ≡ ys ++ 10 ∷ b → ⊥
no_cut [] more ys b h l e = absurd (omega arith)
no_cut (x ∷ xs) more [] b h l e = h.0 (ap head e)
no_cut (x ∷ xs) more (y ∷ ys) b h l e = no_cut xs more ys b h.1 (omega arith) (ap tail e)

pub no_feed_at_end : (xs ys b : List ℕ) → NoFeed xs → xs ≡ ys ++ 10 ∷ b → ⊥
no_feed_at_end [] [] b h e = let f : 0 ≡ suc (length b) = ap length e in absurd (omega (arith, f))
no_feed_at_end [] (y ∷ ys) b h e = let f : 0 ≡ suc (length (ys ++ 10 ∷ b)) = ap length e in absurd (omega (arith, f))
no_feed_at_end (x ∷ xs) [] b h e = h.0 (ap head e)
no_feed_at_end (x ∷ xs) (y ∷ ys) b h e = no_feed_at_end xs ys b h.1 (ap tail e)

pub nofeed-append : (xs ys : List ℕ) → NoFeed xs → NoFeed ys → NoFeed (xs ++ ys)
nofeed-append [] ys h k = k
nofeed-append (x ∷ xs) ys h k = (h.0, nofeed-append xs ys h.1 k)

pub no_feed : (xs : List ℕ) → IsOneLine xs → NoFeed xs
no_feed [] h = tt
no_feed (x ∷ xs) h = (λ e. omega (arith, h.0, e), no_feed xs h.2)
