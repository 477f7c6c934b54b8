-- What a thread is told, where it is, and what its keys stand for stay so where its isolate grows.
use Rattle.std.proofs.Common.{◌≡◌, ℕ, Option, Some, None, refl, sym, ap, ◌∙◌}
use Rattle.mvm_frame.specs.Parts.{StackParts}
use Rattle.mvm_frame.specs.declared.key.FrameKey.{FrameKey}
use Rattle.mvm_history.specs.declared.limits.Limits.{Limits}
use Rattle.mvm_isolate.specs.Numbered.{Numbered, look_of, named}
use Rattle.mvm_isolate.specs.Sound.{Grows}
use Rattle.mvm_current.specs.Frames.{Runs}
use Rattle.mvm_current.specs.Keys.{runs_of, AreKeys, IsKey, IsStackOf}
use Rattle.mvm_current.proofs.Growth.{callers_grow, key_grows, keys_grow, runs_grow, top_grows}
use Rattle.mvm_object.specs.Coming.{point_of, IsFor}
use Rattle.mvm_object.specs.Going.{Context, Point, in_isolate}
use Rattle.mvm_invoke.specs.Leaving.{IsTold}
use Rattle.mvm_invoke.specs.declared.left.Told.{Told}

-- ---- what it is told

pub look_grows : (old new : Numbered) → Grows old new → look_of new ≡ look_of old
look_grows old new g = rw (g.files, g.launch) refl

pub told_grows : (c : Context) (old new : Numbered) (told : Told) → IsTold c old told → Grows old new → new.env.links ≡ old.env.links → IsTold c new told
told_grows c old new told is g links = record {
  look = is.look ∙ sym (look_grows old new g);
  launch = is.launch ∙ sym g.launch;
  number = is.number;
  threads = is.threads;
  ended = is.ended;
  links = is.links ∙ sym links;
  object = is.object;
}

pub told_for : (c : Context) (n : Numbered) (told : Told) → IsTold c n told → IsFor c n told.thread
told_for c n told is = record { look = is.look; launch = is.launch; number = is.number }

-- ---- where it is

pub point_grows : (old new : Numbered) (s : StackParts) → Grows old new → AreKeys old s → point_of new s ≡ in_isolate (named new) (point_of old s)
point_grows old new s g keys = rw (top_grows old new s g keys, callers_grow old new s g keys) refl

pub point_stays : (old new : Numbered) (s : StackParts) → Grows old new → AreKeys old s → named new ≡ named old → point_of new s ≡ point_of old s
point_stays old new s g keys e = point_grows old new s g keys ∙ ap (λ x. in_isolate x (point_of old s)) e

-- ---- the key of a frame that is entered with a monitor

abbrev locked_key : FrameKey → Option ℕ → FrameKey
locked_key key lock = record { mirror = key.mirror; method = key.method; lock = lock }

pub record EntryGrows (old new : Numbered) (key : FrameKey) (lock : Option ℕ) : Type 0 where
  pub is_key : IsKey new (locked_key key lock)
  pub runs : runs_of new (locked_key key lock) 0 ≡ runs_of old key 0

runs_locked : (n : Numbered) (key : FrameKey) (lock : Option ℕ) → runs_of n (locked_key key lock) 0 ≡ runs_of n key 0
unfolding runs_of
runs_locked n key lock = refl

pub entry_grows : (old new : Numbered) (key : FrameKey) (lock : Option ℕ) → Grows old new → IsKey old key → EntryGrows old new key lock
entry_grows old new key lock g is = record {
  is_key = (let k = key_grows old new key g is in record { class = k.class; method = k.method });
  runs = runs_locked new key lock ∙ runs_grow old new key 0 g is;
}

-- ---- what is kept of the frames where only the top one changes

pub keys_below : (old new : Numbered) (s t : StackParts) → Grows old new → AreKeys old s → t.rest.below ≡ s.rest.below → AreKeys new t
keys_below old new s t g keys e = let k = keys_grow old new s g keys in rw e k

pub limits_below : (limits : Limits) (s t : StackParts) → IsStackOf limits s → t.rest.below ≡ s.rest.below → IsStackOf limits t
limits_below limits s t is e = rw e (record { frames = is.frames; words = is.words })

pub limits_grow : (old new : Numbered) (s : StackParts) → Grows old new → IsStackOf old.env.launch.limits s → IsStackOf new.env.launch.limits s
limits_grow old new s g is = rw g.launch is
