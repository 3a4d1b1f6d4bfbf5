-- What a call answers, and leaves, by what is known of its outcome.
use Rattle.std.proofs.Common.{◌≡◌, Bool, false, Option, None, Result, Ok, Err, IsOk, IsErr, OnOk, OnErr, refl}
use Rattle.ra_ap_intern.specs.Outcome.{Owes, OwesBack, MayWant, MayWantBack, Becomes}
use Rattle.ra_ap_intern.specs.Refusal.{Refusal}
use Rattle.ra_ap_intern.specs.Refused.{Refused}
use Rattle.ra_ap_intern.specs.State.{State}

-- a call of which nothing is due isn't refused
pub owes_ok : {A : Type 0} (r : Result A Refusal) → Owes r None → IsOk r
owes_ok (Ok a) owes = refl
owes_ok (Err why) owes = absurd (cc)

-- nor is one that hands back what it was given
pub owes_back_ok : {A O : Type 0} (r : Result A (Refused O)) (given : O) → OwesBack r None given
    → IsOk r
owes_back_ok (Ok a) given owes = refl
owes_back_ok (Err refused) given owes = let none = owes.0 in absurd (cc)

-- nor is one that may want memory, and wants none
pub may_want_ok : {A : Type 0} (r : Result A Refusal) → MayWant r None false → IsOk r
may_want_ok (Ok a) wants = refl
may_want_ok (Err why) wants = let none = wants.1 in absurd (cc)

-- and hands back what it was given
pub may_want_back_ok : {A O : Type 0} (r : Result A (Refused O)) (given : O)
    → MayWantBack r None false given → IsOk r
may_want_back_ok (Ok a) given wants = refl
may_want_back_ok (Err refused) given wants = let none = wants.0.1 in absurd (cc)

-- nothing was due of a call that isn't refused
pub ok_owes : {A : Type 0} (r : Result A Refusal) (due : Option Refusal) → Owes r due → IsOk r
    → due ≡ None
ok_owes (Ok a) due owes ok = owes
ok_owes (Err why) due owes ok = absurd (cc)

-- nor of one that hands back what it was given
pub ok_owes_back : {A O : Type 0} (r : Result A (Refused O)) (due : Option Refusal) (given : O)
    → OwesBack r due given → IsOk r → due ≡ None
ok_owes_back (Ok a) due given owes ok = owes
ok_owes_back (Err refused) due given owes ok = absurd (cc)

-- nor of one that may want memory
pub ok_may_want : {A : Type 0} (r : Result A Refusal) (due : Option Refusal) (needs : Bool)
    → MayWant r due needs → IsOk r → due ≡ None
ok_may_want (Ok a) due needs wants ok = wants
ok_may_want (Err why) due needs wants ok = absurd (cc)

-- and hands back what it was given
pub ok_may_want_back : {A O : Type 0} (r : Result A (Refused O)) (due : Option Refusal) (needs : Bool)
    (given : O) → MayWantBack r due needs given → IsOk r → due ≡ None
ok_may_want_back (Ok a) due needs given wants ok = wants
ok_may_want_back (Err refused) due needs given wants ok = absurd (cc)

-- what a clause says of a call that isn't refused
pub on_ok_of : {A E : Type 0} (r : Result A E) {P : Type 0} → OnOk r P → IsOk r → P
on_ok_of (Ok a) p ok = p
on_ok_of (Err e) p ok = absurd (cc)

-- and of one that is
pub on_err_of : {A E : Type 0} (r : Result A E) {P : Type 0} → OnErr r P → IsErr r → P
on_err_of (Ok a) p err = absurd (cc)
on_err_of (Err e) p err = p

-- the state that a call leaves that isn't refused
pub becomes_ok : {A E V : Type 0} (r : Result A E) (s t next : State V) → Becomes r s t next
    → IsOk r → t ≡ next
becomes_ok (Ok a) s t next becomes ok = becomes
becomes_ok (Err e) s t next becomes ok = absurd (cc)

-- and one that is
pub becomes_err : {A E V : Type 0} (r : Result A E) (s t next : State V) → Becomes r s t next
    → IsErr r → t ≡ s
becomes_err (Ok a) s t next becomes err = absurd (cc)
becomes_err (Err e) s t next becomes err = becomes
