-- The stamps of a history: what one entry more keeps, and that they rise.
use Rattle.std.proofs.Common.{◌≡◌, ◌≤◌, ℕ, List, [], ◌∷◌, ◌++◌, refl, arith}
use Rattle.std.specs.List.{AllByRecursion}
use Rattle.mvm_history.specs.declared.entry.Entry.{Entry}
use Rattle.mvm_history.specs.declared.event.Event.{Event}
use Rattle.mvm_history.specs.Stamps.{last_from, next_stamp, entry_of, AreStampedFrom, AreStamped, IsRising}

pub last_pushed : (stamp : ℕ) (es : List Entry) (e : Entry) → last_from stamp (es ++ e ∷ []) ≡ e.stamp
unfolding last_from
last_pushed stamp [] e = refl
last_pushed stamp (f ∷ es) e = last_pushed f.stamp es e

stamped_pushed_from : (stamp : ℕ) (es : List Entry) (event : Event) → AreStampedFrom stamp es →
    AreStampedFrom stamp (es ++ record { stamp = next_stamp (last_from stamp es) event; what = event } ∷ [])
unfolding last_from
stamped_pushed_from stamp [] event all = (refl, tt)
stamped_pushed_from stamp (e ∷ es) event all = (all.0, stamped_pushed_from e.stamp es event all.1)

pub stamped_pushed : (es : List Entry) (event : Event) → AreStamped es → AreStamped (es ++ entry_of es event ∷ [])
stamped_pushed es event all = stamped_pushed_from 0 es event all

stamped_front_from : (stamp : ℕ) (es fs : List Entry) → AreStampedFrom stamp (es ++ fs) → AreStampedFrom stamp es
stamped_front_from stamp [] fs all = tt
stamped_front_from stamp (e ∷ es) fs all = (all.0, stamped_front_from e.stamp es fs all.1)

pub stamped_front : (es fs : List Entry) → AreStamped (es ++ fs) → AreStamped es
stamped_front es fs all = stamped_front_from 0 es fs all

no_lower : (low high : ℕ) (es : List Entry) → low ≤ high → AllByRecursion (λ e. high ≤ e.stamp) es → AllByRecursion (λ e. low ≤ e.stamp) es
no_lower low high [] up all = tt
no_lower low high (e ∷ es) up all = (let a = all.0 in omega arith, no_lower low high es up all.1)

next_above : (stamp stamp_ : ℕ) (event : Event) → stamp_ ≡ next_stamp stamp event → stamp ≤ stamp_
next_above stamp stamp_ event is = omega arith

rising_from : (stamp : ℕ) (es : List Entry) → AreStampedFrom stamp es → AllByRecursion (λ e. stamp ≤ e.stamp) es × IsRising es
rising_from stamp [] all = (tt, tt)
rising_from stamp (e ∷ es) all =
    let up : stamp ≤ e.stamp = next_above stamp e.stamp e.what all.0 in
    let rest = rising_from e.stamp es all.1 in
    ((up, no_lower stamp e.stamp es up rest.0), rest)

pub stamped_rising : (es : List Entry) → AreStamped es → IsRising es
stamped_rising es all = (rising_from 0 es all).1
