-- What holds anyhow holds by the result.
use Rattle.std.proofs.Common.{◌≡◌, Bool, true, false, Result, Ok, Err, OnOk}
use Rattle.stm_journal.specs.declared.error.JournalError.{JournalError}
use Rattle.stm_journal.specs.Device.{Own, HasCause}

pub on_ok : {A E : Type 0} (r : Result A E) (P : Type 0) → P → OnOk r P
on_ok (Ok x) P p = p
on_ok (Err e) P p = tt

-- an error that is passed on has its cause
pub passed_on : {A B : Type 0} (fault : Type 0) (own : Own) (r : Result A JournalError) (e : JournalError) → r ≡ Err e → HasCause fault own r → HasCause {T = B} fault own (Err e)
passed_on fault own r e is h =
    record {
      failed = λ i. h.failed (cc (is, i));
      no_space = λ i. h.no_space (cc (is, i));
      full = λ i. h.full (cc (is, i));
      too_long = λ i. h.too_long (cc (is, i));
      torn_too_long = λ i. h.torn_too_long (cc (is, i));
    }

-- ---- results that differ
pub ok_not_err : {A E : Type 0} {P : Type 0} (x : A) (e : E) → ◌≡◌ {A = Result A E} (Ok x) (Err e) → P
ok_not_err x e is = absurd (cc is)

pub err_not_ok : {A E : Type 0} {P : Type 0} (e : E) (x : A) → ◌≡◌ {A = Result A E} (Err e) (Ok x) → P
err_not_ok e x is = absurd (cc is)

pub no_more : {E : Type 0} {P : Type 0} → ◌≡◌ {A = Result Bool E} (Ok false) (Ok true) → P
no_more is = absurd (cc is)

pub same_error : {A E : Type 0} (e f : E) → ◌≡◌ {A = Result A E} (Err e) (Err f) → e ≡ f
same_error e f is = cc is
