-- A device in memory with a cache: what is in it, and that it is honest.
use Rattle.std.specs.Prelude.{◌≡◌, ◌⊎◌, ℕ, true, false, List, [], ◌∷◌, length, drop, refl}
use mathlib.Core.Logic.{inl, inr}
use Rattle.stm_journal.specs.Disk.{Disk, IsLawful}
use Rattle.stm_journal.specs.declared.cached.Cached.{Cached}
use Rattle.stm_journal.specs.declared.cached.Content.{Content}

-- the bytes that the disk has
abbrev pub bytes_on_disk : Cached → List ℕ
bytes_on_disk d = d.content.disk.items

-- A new file: these bytes are on the disk and in the cache, and one sync is to fail after this many.
pub record IsNewCached (bytes : List ℕ) (syncs : ℕ) (d : Cached) : Type 0 where
  pub disk : d.content.disk.items ≡ bytes
  pub cache : d.content.cache.items ≡ bytes
  pub settled : d.is_settled ≡ true
  pub left : d.syncs ≡ syncs
  pub failed : d.failed ≡ 0

-- what the disk has, or what the cache has
abbrev pub IsEither : Content → List ℕ → Type 0
IsEither p c = (c ≡ p.disk.items) ⊎ (c ≡ p.cache.items)

-- one of them had this
abbrev pub HadEither : List Content → List ℕ → Type 0
HadEither [] c = ⊥
HadEither (p ∷ past) c = IsEither p c ⊎ HadEither past c

-- what a crash might have left since a moment
abbrev pub SinceThen : List Content → Content → ℕ → List ℕ → Type 0
SinceThen past p t c = IsEither p c ⊎ HadEither (drop t past) c

-- an honest device: reads return what the cache has, and a crash leaves that or what the disk has
abbrev pub cached_disk : Disk Cached
cached_disk = record {
  is_honest = true;
  fills_with_zeros = false;
  seen = λ d. d.content.cache.items;
  may_leave = λ d c. IsEither d.content c;
  is_settled = λ d. d.is_settled;
  moment = λ d. length d.past.items;
  left_since = λ d t c. SinceThen d.past.items d.content t c;
  faults = λ d. d.failed;
  reads_fail = λ d. ⊥;
}

none_had : (past : List Content) (c : List ℕ) → HadEither (drop (length past) past) c → ⊥
none_had [] c had = had
none_had (p ∷ past) c had = none_had past c had

pub only_present : (past : List Content) (p : Content) (c : List ℕ) → SinceThen past p (length past) c → IsEither p c
only_present past p c (inl now) = now
only_present past p c (inr had) = absurd (none_had past c had)

-- its parts go together
abbrev pub cached_lawful : IsLawful cached_disk
cached_lawful = record {
  may_stay = λ d. inr refl;
  counts_now = λ d t c le now. inl now;
  only_now = λ d c left. only_present d.past.items d.content c left;
}
