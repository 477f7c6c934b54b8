-- What a throw comes to, by whether each of its two ways finds its words.
use Rattle.std.proofs.Common.{◌≡◌, ◌∙◌, ℕ, List, false, refl}
use Rattle.std.specs.Prelude.{Result, Ok, Err}
use Rattle.std.specs.Result.{is_ok}
use Rattle.mvm_native.specs.declared.out.Thrown.TheVariants.{OutOfMemoryError}
use Rattle.mvm_isolate.specs.Isolate.{Isolate}
use Rattle.mvm_isolate.specs.Look.{Look}
use Rattle.mvm_isolate.specs.declared.stop.Stop.{Stop}
use Rattle.mvm_isolate.specs.declared.stop.Stop.TheVariants as stop
use Rattle.mvm_current.specs.Frames.{Frame}
use Rattle.mvm_throwing.specs.Throwing.{Unwound, abandoned, or_words_missing, throw, throwing}

-- it finds its words
pub throws_it : (look : Look) (thread : ℕ) (why : Stop) (s : Isolate) (fs : List Frame) (x : Unwound) → throwing look thread why s fs ≡ Ok x → throw look thread why s fs ≡ Ok x
unfolding throw
throws_it look thread why s fs x e = rw e refl

or_other : (r other : Result Unwound Stop) → is_ok r ≡ false → or_words_missing r other ≡ other
or_other (Ok x) other e = absurd cc
or_other (Err why) other e = refl

throws_other : (look : Look) (thread : ℕ) (why : Stop) (s : Isolate) (fs : List Frame) → is_ok (throwing look thread why s fs) ≡ false
    → throw look thread why s fs ≡ or_words_missing (throwing look thread (stop.Throw OutOfMemoryError) s fs) (Ok (abandoned s))
unfolding throw
throws_other look thread why s fs e = or_other (throwing look thread why s fs) (or_words_missing (throwing look thread (stop.Throw OutOfMemoryError) s fs) (Ok (abandoned s))) e

-- it does not, and object 0 is thrown,
pub throws_aside : (look : Look) (thread : ℕ) (why : Stop) (s : Isolate) (fs : List Frame) (x : Unwound) → is_ok (throwing look thread why s fs) ≡ false → throwing look thread (stop.Throw OutOfMemoryError) s fs ≡ Ok x → throw look thread why s fs ≡ Ok x
throws_aside look thread why s fs x e is = throws_other look thread why s fs e ∙ rw is refl

-- or words are missing for that too
pub throws_neither : (look : Look) (thread : ℕ) (why : Stop) (s : Isolate) (fs : List Frame) → is_ok (throwing look thread why s fs) ≡ false → is_ok (throwing look thread (stop.Throw OutOfMemoryError) s fs) ≡ false → throw look thread why s fs ≡ Ok (abandoned s)
throws_neither look thread why s fs e f = throws_other look thread why s fs e ∙ or_other (throwing look thread (stop.Throw OutOfMemoryError) s fs) (Ok (abandoned s)) f
