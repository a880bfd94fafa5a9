-- The first batch of a file, step after step.
use Rattle.std.proofs.Common.{◌≡◌, inl, inr, ℕ, zero, suc, ◌+◌, ◌-◌, ◌≤◌, List, [], ◌∷◌, ◌++◌, length, take, drop, refl, sym, ◌∙◌, ap, subst, arith, length-append, length-drop, take-append-drop}
use Rattle.std.proofs.lemmas.List.{take_all, take_at, length-take}
use Rattle.stm_journal.specs.FirstBatch.{IsBegun, LeavesFirst}
use Rattle.stm_journal.specs.Device.{Torn, overwritten}
use Rattle.stm_journal.specs.Disk.{Disk, LeavesOnly}
use Rattle.stm_journal.specs.Text.{recovered, IsWhole}
use Rattle.stm_journal.proofs.Crash.{appended, none_added, opened, torn_open}
use Rattle.stm_journal.proofs.Moments.{joined, weaker}
use Rattle.stm_journal.proofs.Wholes.{recovered_nothing, whole_short, whole_shut}

-- what a write after the end may leave
after_end : (text : List ℕ) (n : ℕ) (c : List ℕ) → Torn (length text) n text c → c ≡ text ++ drop (length text) c
after_end text n c torn =
    sym (take-append-drop (length text) c)
    ∙ ap (λ (l : List ℕ). l ++ drop (length text) c) (torn.before ∙ take_all (length text) text (omega arith))

few_after : (text : List ℕ) (n : ℕ) (c : List ℕ) → Torn (length text) n text c → length (drop (length text) c) ≤ n
few_after text n c torn = omega (arith, length-drop (length text) c, torn.no_longer)

-- of a batch with the bytes b and a, those of the rest of its front, and others
module _ (b a : ℕ) (mid rest : List ℕ) (lines : IsWhole (b ∷ a ∷ mid ++ rest)) where
  abbrev P : List ℕ → Type 0
  P = LeavesFirst (b ∷ a ∷ mid) (b ∷ a ∷ mid ++ rest)

  closed : (tail : List ℕ) → recovered (0 ∷ tail) ≡ []
  closed tail = recovered_nothing [] (0 ∷ tail) refl (whole_shut 0 tail (λ e. absurd (omega (arith, e))))

  begun : (c : List ℕ) → recovered c ≡ [] → length c ≤ length (b ∷ a ∷ mid ++ rest) → IsBegun (b ∷ a ∷ mid) c → P c
  begun c none long is = record { lines = none_added [] (b ∷ a ∷ mid ++ rest) c none (omega (arith, long)); begun = inl is }

  gate_torn : (c : List ℕ) → Torn 0 1 [] c → P c
  gate_torn c torn =
      let short : length c ≤ 1 = omega (arith, torn.no_longer) in
      begun c (recovered_nothing [] c refl (whole_short c short)) (omega (arith, short)) (inl short)

  second_torn : (c : List ℕ) → Torn 1 1 (0 ∷ []) c → P c
  second_torn c torn =
      let few : length (drop 1 c) ≤ 1 = few_after (0 ∷ []) 1 c torn in
      subst P (sym (after_end (0 ∷ []) 1 c torn)) (begun (0 ∷ drop 1 c) (closed (drop 1 c)) (omega (arith, few)) (inr (refl, inl few)))

  front_torn : (c : List ℕ) → Torn 2 (length mid) (0 ∷ a ∷ []) c → P c
  front_torn c torn =
      let few : length (drop 2 c) ≤ length mid = few_after (0 ∷ a ∷ []) (length mid) c torn in
      subst P (sym (after_end (0 ∷ a ∷ []) (length mid) c torn))
      (begun (0 ∷ a ∷ drop 2 c) (closed (a ∷ drop 2 c)) (omega (arith, few, length-append mid rest)) (inr (refl, inr (refl, inl few))))

  rest_torn : (c : List ℕ) → Torn (2 + length mid) (length rest) (0 ∷ a ∷ mid) c → P c
  rest_torn c torn =
      let text : List ℕ = 0 ∷ a ∷ mid in
      let tail = drop (length text) c in
      let same : 2 + length mid ≡ length text = omega arith in
      let torn_at : Torn (length text) (length rest) text c = subst (λ (n : ℕ). Torn n (length rest) text c) same torn in
      let few : length tail ≤ length rest = few_after text (length rest) c torn_at in
      subst P (sym (after_end text (length rest) c torn_at))
      (begun (0 ∷ a ∷ mid ++ tail) (closed (a ∷ mid ++ tail)) (omega (arith, few, length-append mid tail, length-append mid rest))
      (inr (refl, inr (refl, inr (take_at mid tail (length mid) refl, tt)))))

  open_torn : (c : List ℕ) → Torn 0 1 (0 ∷ a ∷ mid ++ rest) c → P c
  open_torn c torn = record { lines = torn_open [] refl 0 refl b (a ∷ mid ++ rest) c lines torn; begun = inr torn.after }

-- the parts of a batch whose front has this many bytes
record Parts (batch : List ℕ) (front : ℕ) : Type 0 where
  b : ℕ
  a : ℕ
  mid : List ℕ
  rest : List ℕ
  whole : batch ≡ b ∷ a ∷ mid ++ rest
  first : take 1 batch ≡ b ∷ []
  second : take 1 (drop 1 batch) ≡ a ∷ []
  middle : take (front - 2) (drop 2 batch) ≡ mid
  last : take (length batch - front) (drop front batch) ≡ rest
  begins : take front batch ≡ b ∷ a ∷ mid
  counts : front ≡ 2 + length mid

parts : (batch : List ℕ) (front : ℕ) → 2 ≤ front → front ≤ length batch → Parts batch front
parts [] front some within = absurd (omega (arith, some, within))
parts (b ∷ []) front some within = absurd (omega (arith, some, within))
parts (b ∷ a ∷ more) zero some within = absurd (omega (arith, some))
parts (b ∷ a ∷ more) (suc zero) some within = absurd (omega (arith, some))
parts (b ∷ a ∷ more) (suc (suc n)) some within =
    let front : suc (suc n) - 2 ≡ n = omega arith in
    let count : length (take n more) ≡ n = omega (arith, within, length-take n more) in
    record {
      b = b;
      a = a;
      mid = take n more;
      rest = drop n more;
      whole = ap (λ (l : List ℕ). b ∷ a ∷ l) (sym (take-append-drop n more));
      first = refl;
      second = refl;
      middle = ap (λ (k : ℕ). take k more) front;
      last = take_all (length (b ∷ a ∷ more) - suc (suc n)) (drop n more) (omega (arith, length-drop n more));
      begins = refl;
      counts = omega (arith, count);
    }

module _ {D : Type 0} (disk : Disk D) (old : D) (none : disk.seen old ≡ []) (batch : List ℕ) (front : ℕ) (lines : IsWhole batch) (some : 2 ≤ front) (within : front ≤ length batch) where
  p : Parts batch front
  p = parts batch front some within

  abbrev Q : List ℕ → Type 0
  Q = LeavesFirst (take front batch) batch

  whole_parts : IsWhole (p.b ∷ p.a ∷ p.mid ++ p.rest)
  whole_parts = subst IsWhole p.whole lines

  to_batch : (c : List ℕ) → P p.b p.a p.mid p.rest whole_parts c → Q c
  to_batch c h =
      subst (λ (l : List ℕ). LeavesFirst (take front batch) l c) (sym p.whole)
      (subst (λ (l : List ℕ). LeavesFirst l (p.b ∷ p.a ∷ p.mid ++ p.rest) c) (sym p.begins) h)

  -- one step more, at the end of this text
  next : (one two : D) (at n : ℕ) (text : List ℕ) → disk.seen one ≡ text → ((c : List ℕ) → Torn at n text c → Q c) → LeavesOnly disk old one Q
      → LeavesOnly disk one two (Torn at n (disk.seen one)) → LeavesOnly disk old two Q
  next one two at n text is each first run =
      joined disk old one two Q _ Q first run (λ c q. q) (λ c torn. each c (subst (λ (f : List ℕ). Torn at n f c) is torn))

  written : (one two : D) (at : ℕ) (bytes text : List ℕ) → at ≡ length text → disk.seen one ≡ text → disk.seen two ≡ overwritten at bytes (disk.seen one)
      → disk.seen two ≡ text ++ bytes
  written one two at bytes text counts is holds =
      appended text at bytes (disk.seen two) counts (holds ∙ ap (λ (f : List ℕ). overwritten at bytes f) is)

  pub after_gate : (one : D) → LeavesOnly disk old one (Torn 0 1 (disk.seen old)) → LeavesOnly disk old one Q
  after_gate one run =
      weaker disk old one _ Q run
      (λ c torn. to_batch c (gate_torn p.b p.a p.mid p.rest whole_parts c (subst (λ (f : List ℕ). Torn 0 1 f c) none torn)))

  module _ (one : D) (gate_is : disk.seen one ≡ overwritten 0 (0 ∷ []) (disk.seen old)) where
    text_1 : disk.seen one ≡ 0 ∷ []
    text_1 = written old one 0 (0 ∷ []) [] refl none gate_is

    pub after_second : (two : D) → LeavesOnly disk old one Q → LeavesOnly disk one two (Torn 1 (length (take 1 (drop 1 batch))) (disk.seen one))
        → LeavesOnly disk old two Q
    after_second two first run =
        next one two 1 (length (take 1 (drop 1 batch))) (0 ∷ []) text_1
        (λ c torn. to_batch c (second_torn p.b p.a p.mid p.rest whole_parts c (subst (λ (l : List ℕ). Torn 1 (length l) (0 ∷ []) c) p.second torn)))
        first run

    module _ (two : D) (second_is : disk.seen two ≡ overwritten 1 (take 1 (drop 1 batch)) (disk.seen one)) where
      text_2 : disk.seen two ≡ 0 ∷ p.a ∷ []
      text_2 = written one two 1 (take 1 (drop 1 batch)) (0 ∷ []) refl text_1 second_is ∙ ap (λ (l : List ℕ). 0 ∷ l) p.second

      pub after_front : (three : D) → LeavesOnly disk old two Q → LeavesOnly disk two three (Torn 2 (length (take (front - 2) (drop 2 batch))) (disk.seen two))
          → LeavesOnly disk old three Q
      after_front three so_far run =
          next two three 2 (length (take (front - 2) (drop 2 batch))) (0 ∷ p.a ∷ []) text_2
          (λ c torn. to_batch c (front_torn p.b p.a p.mid p.rest whole_parts c (subst (λ (l : List ℕ). Torn 2 (length l) (0 ∷ p.a ∷ []) c) p.middle torn)))
          so_far run

      module _ (three : D) (front_is : disk.seen three ≡ overwritten 2 (take (front - 2) (drop 2 batch)) (disk.seen two)) where
        text_3 : disk.seen three ≡ 0 ∷ p.a ∷ p.mid
        text_3 = written two three 2 (take (front - 2) (drop 2 batch)) (0 ∷ p.a ∷ []) refl text_2 front_is ∙ ap (λ (l : List ℕ). 0 ∷ p.a ∷ l) p.middle

        pub after_rest : (four : D) → LeavesOnly disk old three Q
            → LeavesOnly disk three four (Torn front (length (take (length batch - front) (drop front batch))) (disk.seen three)) → LeavesOnly disk old four Q
        after_rest four so_far run =
            next three four front (length (take (length batch - front) (drop front batch))) (0 ∷ p.a ∷ p.mid) text_3
            (λ c torn. to_batch c (rest_torn p.b p.a p.mid p.rest whole_parts c
            (subst (λ (n : ℕ). Torn n (length p.rest) (0 ∷ p.a ∷ p.mid) c) p.counts
            (subst (λ (l : List ℕ). Torn front (length l) (0 ∷ p.a ∷ p.mid) c) p.last torn))))
            so_far run

        module _ (four : D) (rest_is : disk.seen four ≡ overwritten front (take (length batch - front) (drop front batch)) (disk.seen three)) where
          text_4 : disk.seen four ≡ 0 ∷ p.a ∷ p.mid ++ p.rest
          text_4 =
              written three four front (take (length batch - front) (drop front batch)) (0 ∷ p.a ∷ p.mid) (omega (arith, p.counts)) text_3 rest_is
              ∙ ap (λ (l : List ℕ). 0 ∷ p.a ∷ p.mid ++ l) p.last

          pub after_open : (five : D) → LeavesOnly disk old four Q → LeavesOnly disk four five (Torn 0 (length (take 1 batch)) (disk.seen four)) → LeavesOnly disk old five Q
          after_open five so_far run =
              next four five 0 (length (take 1 batch)) (0 ∷ p.a ∷ p.mid ++ p.rest) text_4
              (λ c torn. to_batch c (open_torn p.b p.a p.mid p.rest whole_parts c
              (subst (λ (l : List ℕ). Torn 0 (length l) (0 ∷ p.a ∷ p.mid ++ p.rest) c) p.first torn)))
              so_far run

          pub open_text : (five : D) → disk.seen five ≡ overwritten 0 (take 1 batch) (disk.seen four) → disk.seen five ≡ batch
          open_text five is =
              opened [] refl 0 refl p.b (p.a ∷ p.mid ++ p.rest) (disk.seen five)
              (is ∙ ap (λ (l : List ℕ). overwritten 0 l (disk.seen four)) p.first ∙ ap (λ (f : List ℕ). overwritten 0 (p.b ∷ []) f) text_4)
              ∙ sym p.whole
