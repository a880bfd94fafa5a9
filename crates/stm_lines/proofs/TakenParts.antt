-- A line is taken part by part.
use Rattle.std.proofs.Common.{◌≡◌, ◌≢◌, ℕ, zero, suc, nat_eq, ◌+◌, ◌-◌, ◌<◌, ◌≤◌, true, false, List, [], ◌∷◌, ◌++◌, length, take, drop, refl, sym, ap, subst, ◌∙◌, append_assoc, append-nil, arith, length-append, Option, Some, None}
use Rattle.std.proofs.KnownBytes.{Consumes-trans}
use Rattle.std.proofs.Math.Seq.{drop-length}
use Rattle.std.proofs.lemmas.List.{length-take-le, take-append-drop}
use Rattle.std.proofs.lemmas.List.Elements.{All-append}
use Rattle.std.specs.Io.KnownBytes.{Consumes, IsAtEnd, Keeps, prepend_known}
use Rattle.memchr.specs.Find.{IsFirstByte, is_byte}
use Rattle.stm_lines.proofs.LineFeeds.{NoLineFeed-all, NoLineFeed-take, split-at}
use Rattle.stm_lines.specs.Lines.{NoLineFeed}
use Rattle.stm_lines.specs.TakenLines.{TakesPartOfLine, TakesLastLine, IsPart, IsSkippedPart, TakesWholeLine}
use Rattle.stm_lines.specs.declared.line_reader.Part.{Part}
use Rattle.stm_lines.specs.declared.line_reader.Part.TheVariants as part

-- ---- parts of a chunk
-- the bytes before the first line feed, which ends the line
pub IsPart-whole : (limit at : ℕ) (begun line chunk rest : List ℕ) → IsFirstByte (is_byte 10) chunk (Some at) → length begun ≤ limit → at ≤ limit - length begun
    → line ≡ begun ++ take at chunk → rest ≡ drop (at + 1) chunk → IsPart part.Whole limit begun line chunk rest
IsPart-whole limit at begun line chunk rest f h k e r = (
  take at chunk,
  NoLineFeed-take chunk at at f.0.before (omega arith),
  e,
  split-at chunk at f ∙ ap (λ l. take at chunk ++ 10 ∷ l) (sym r),
  omega (arith, ap length e, length-append begun (take at chunk), length-take-le at chunk (omega (arith, f.0.high))),
)

-- the bytes up to the first line feed, skipped
pub IsSkippedPart-feed : (at : ℕ) (chunk rest : List ℕ) → IsFirstByte (is_byte 10) chunk (Some at) → rest ≡ drop (at + 1) chunk → IsSkippedPart true chunk rest
IsSkippedPart-feed at chunk rest f r = (take at chunk, NoLineFeed-take chunk at at f.0.before (omega arith), split-at chunk at f ∙ ap (λ l. take at chunk ++ 10 ∷ l) (sym r))

pub IsSkippedPart-all : (n : ℕ) (chunk rest : List ℕ) → IsFirstByte (is_byte 10) chunk None → n ≡ length chunk → rest ≡ drop n chunk → IsSkippedPart false chunk rest
IsSkippedPart-all n chunk rest f s r = (NoLineFeed-all chunk f, r ∙ ap (λ m. drop m chunk) s ∙ drop-length chunk)

-- as many bytes as make the line too long
pub IsPart-too_long : (limit n : ℕ) (begun line chunk rest : List ℕ) → NoLineFeed (take n chunk) → n ≤ length chunk → length begun + n ≡ limit + 1
    → line ≡ begun ++ take n chunk → rest ≡ drop n chunk → IsPart part.TooLong limit begun line chunk rest
IsPart-too_long limit n begun line chunk rest h k s e r = (
  take n chunk,
  h,
  e,
  sym (take-append-drop n chunk) ∙ ap (λ l. take n chunk ++ l) (sym r),
  omega (arith, ap length e, length-append begun (take n chunk), length-take-le n chunk k),
)

-- ---- what was taken of the input
Consumes-front : (b : Option (List ℕ)) (chunk bytes rest : List ℕ) → chunk ≡ bytes ++ rest → Consumes (prepend_known chunk b) (prepend_known rest b) bytes
Consumes-front None chunk bytes rest e = tt
Consumes-front (Some x) chunk bytes rest e = ap (λ l. l ++ x) e ∙ append_assoc bytes rest x

-- bytes more
pub TakesPartOfLine-more : (a b : Option (List ℕ)) (begun line chunk bytes rest : List ℕ) → TakesPartOfLine a (prepend_known chunk b) begun → NoLineFeed bytes → line ≡ begun ++ bytes
    → chunk ≡ bytes ++ rest → TakesPartOfLine a (prepend_known rest b) line
TakesPartOfLine-more a b begun line chunk bytes rest h p l e = record {
  plain = subst NoLineFeed (sym l) (All-append (λ b. b ≢ 10) begun bytes h.plain p);
  taken = subst (Consumes a (prepend_known rest b)) (sym l) (Consumes-trans _ _ _ _ _ h.taken (Consumes-front b chunk bytes rest e));
}

-- all bytes of the chunk
pub TakesPartOfLine-all : (a b : Option (List ℕ)) (begun line chunk rest : List ℕ) → TakesPartOfLine a (prepend_known chunk b) begun → NoLineFeed chunk → line ≡ begun ++ chunk
    → rest ≡ [] → TakesPartOfLine a (prepend_known rest b) line
TakesPartOfLine-all a b begun line chunk rest h p l e = TakesPartOfLine-more a b begun line chunk chunk rest h p l (sym (append-nil chunk) ∙ ap (λ r. chunk ++ r) (sym e))

-- the line feed
pub TakesWholeLine-more : (a b : Option (List ℕ)) (begun line chunk bytes rest : List ℕ) → TakesPartOfLine a (prepend_known chunk b) begun → NoLineFeed bytes → line ≡ begun ++ bytes
    → chunk ≡ bytes ++ 10 ∷ rest → TakesWholeLine a (prepend_known rest b) line
TakesWholeLine-more a b begun line chunk bytes rest h p l e =
    let so_far = TakesPartOfLine-more a b begun line chunk bytes (10 ∷ rest) h p l e in
    record { plain = so_far.plain; taken = Consumes-trans _ _ _ _ _ so_far.taken (Consumes-front b (10 ∷ rest) (10 ∷ []) rest refl) }

-- the next chunk was read
pub TakesPartOfLine-refilled : (a b c : Option (List ℕ)) (line chunk next : List ℕ) → TakesPartOfLine a (prepend_known chunk b) line → chunk ≡ [] → Consumes b c next → TakesPartOfLine a (prepend_known next c) line
TakesPartOfLine-refilled None b c line chunk next h e q = record { plain = h.plain; taken = tt }
TakesPartOfLine-refilled (Some x) None c line chunk next h e q = absurd h.taken
TakesPartOfLine-refilled (Some x) (Some y) None line chunk next h e q = absurd q
TakesPartOfLine-refilled (Some x) (Some y) (Some z) line chunk next h e q = record { plain = h.plain; taken = h.taken ∙ ap (λ l. line ++ (l ++ y)) e ∙ ap (λ l. line ++ l) q }

-- a read failed
pub TakesPartOfLine-kept : (a b c : Option (List ℕ)) (line chunk next : List ℕ) → TakesPartOfLine a (prepend_known chunk b) line → chunk ≡ [] → Keeps b c → next ≡ [] → TakesPartOfLine a (prepend_known next c) line
TakesPartOfLine-kept None b c line chunk next h e q n = record { plain = h.plain; taken = tt }
TakesPartOfLine-kept (Some x) None c line chunk next h e q n = absurd h.taken
TakesPartOfLine-kept (Some x) (Some y) None line chunk next h e q n = absurd q
TakesPartOfLine-kept (Some x) (Some y) (Some z) line chunk next h e q n = record { plain = h.plain; taken = h.taken ∙ ap (λ l. line ++ (l ++ y)) (e ∙ sym n) ∙ ap (λ l. line ++ (next ++ l)) (sym q) }

IsAtEnd-prepended : (b : Option (List ℕ)) (chunk : List ℕ) → chunk ≡ [] → IsAtEnd b → IsAtEnd (prepend_known chunk b)
IsAtEnd-prepended None chunk e q = tt
IsAtEnd-prepended (Some x) chunk e q = ap (λ l. l ++ x) e ∙ q

-- the input has ended
pub TakesLastLine-ended : (a b : Option (List ℕ)) (line chunk : List ℕ) → TakesPartOfLine a (prepend_known chunk b) line → chunk ≡ [] → IsAtEnd b → TakesLastLine a (prepend_known chunk b) line
TakesLastLine-ended a b line chunk h e q = record { plain = h.plain; taken = h.taken; at_end = IsAtEnd-prepended b chunk e q }

-- ---- what a part of the chunk makes of a line that has begun
-- the line is whole
pub whole_taken : (limit : ℕ) (p : Part) (a b : Option (List ℕ)) (begun line chunk rest : List ℕ) → TakesPartOfLine a (prepend_known chunk b) begun → p ≡ part.Whole
    → IsPart p limit begun line chunk rest
    → TakesWholeLine a (prepend_known rest b) line × (length line ≤ limit) × (length rest + length line < length chunk + length begun)
whole_taken limit p a b begun line chunk rest h e q =
    let s = subst (λ (x : Part). IsPart x limit begun line chunk rest) e q in (
      TakesWholeLine-more a b begun line chunk s.0 rest h s.1 s.2 s.3,
      s.4,
      omega (arith, ap length s.2, ap length s.3, length-append begun s.0, length-append s.0 (10 ∷ rest)),
    )

-- the line is too long
pub too_long_taken : (limit : ℕ) (p : Part) (a b : Option (List ℕ)) (begun line chunk rest : List ℕ) → TakesPartOfLine a (prepend_known chunk b) begun → p ≡ part.TooLong
    → IsPart p limit begun line chunk rest
    → TakesPartOfLine a (prepend_known rest b) line × (length line ≡ limit + 1) × (length rest + length line ≡ length chunk + length begun)
too_long_taken limit p a b begun line chunk rest h e q =
    let s = subst (λ (x : Part). IsPart x limit begun line chunk rest) e q in (
      TakesPartOfLine-more a b begun line chunk s.0 rest h s.1 s.2 s.3,
      s.4,
      omega (arith, ap length s.2, ap length s.3, length-append begun s.0, length-append s.0 rest),
    )

-- the line goes on
pub all_taken : (limit : ℕ) (p : Part) (a b : Option (List ℕ)) (begun line chunk rest : List ℕ) → TakesPartOfLine a (prepend_known chunk b) begun → p ≡ part.More
    → IsPart p limit begun line chunk rest
    → TakesPartOfLine a (prepend_known rest b) line × (length line ≤ limit) × (length line ≡ length chunk + length begun) × NoLineFeed chunk × (rest ≡ [])
all_taken limit p a b begun line chunk rest h e q =
    let s = subst (λ (x : Part). IsPart x limit begun line chunk rest) e q in
    (TakesPartOfLine-all a b begun line chunk rest h s.0 s.1 s.2, s.3, omega (arith, ap length s.1, length-append begun chunk), s.0, s.2)

pub not_empty : (n : ℕ) → false ≡ nat_eq n 0 → 0 < n
not_empty zero e = absurd (cc)
not_empty (suc n) e = omega arith
