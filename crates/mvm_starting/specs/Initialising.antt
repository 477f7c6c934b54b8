-- The frames in which classes are initialised (JVM Specification 5.5, steps 7 to 10).
use Rattle.std.specs.Prelude.{ℕ, List, [], ◌∷◌, ◌==◌, if◌then◌else◌, Option, Some, None, Result, Ok, codes}
use Rattle.mvm_base.specs.Answers.{◌>>=◌}
use Rattle.mvm_layout.specs.Flags.{is_static}
use Rattle.mvm_layout.specs.declared.parts.Code.{Code}
use Rattle.mvm_layout.specs.declared.parts.Member.{Member}
use Rattle.mvm_layout.specs.declared.parts.Parts.{Parts}
use Rattle.mvm_set.specs.Members.{method_at}
use Rattle.mvm_isolate.specs.Faults.{looked_up}
use Rattle.mvm_isolate.specs.Initialise.{begins, finished}
use Rattle.mvm_isolate.specs.Isolate.{stopped}
use Rattle.mvm_member.specs.Members.{member_at}
use Rattle.mvm_isolate.specs.Supers.{supers_of}
use Rattle.mvm_isolate.specs.declared.stop.Stop.{Stop}
use Rattle.mvm_invoke.specs.Calls.{without_code}
use Rattle.mvm_object.specs.Entries.{by_begin, may_begin}
use Rattle.mvm_current.specs.Frames.{method, called_frame, at_place, if_room, LAST}
use Rattle.mvm_object.specs.Going.{Context, Point, Went, does, ready}

-- the supers of a class are initialised in their order, and then the attempt goes on
unfoldable pub supers_first : Context → List (List ℕ) → (Point → Result Went Stop) → Point → Result Went Stop
supers_first c [] go p = go p
supers_first c (name ∷ names) go p = begins c.look (may_begin c p) c.thread name p.isolate >>= by_begin c name p (supers_first c names go)

-- the class is initialised, and its frame is left
abbrev pub initialised : Context → List ℕ → Point → Went
initialised c class p = record { isolate = finished class p.isolate; frames = p.callers; object = c.object; after = does ready }

abbrev pub initialiser_of : Parts → Option Member
initialiser_of file = member_at file.methods (method_at (codes "<clinit>") (codes "()V") file)

abbrev pub initialiser_framed : Context → List ℕ → Member → Option Code → Point → Result Went Stop
initialiser_framed c class m (Some code) p =
    if_room c.launch.limits (called_frame (method class (codes "<clinit>") (codes "()V")) None code.max_locals code.max_stack 0 [])
    (at_place LAST p.frame ∷ p.callers) >>= λ fs.
    Ok (record { isolate = p.isolate; frames = fs; object = c.object; after = does ready })
initialiser_framed c class m None p = stopped (without_code m)

abbrev pub initialiser_called : Context → List ℕ → Option Member → Point → Result Went Stop
initialiser_called c class (Some m) p = if is_static m.flags then initialiser_framed c class m m.code p else Ok (initialised c class p)
initialiser_called c class None p = Ok (initialised c class p)

-- the supers, then `<clinit>` in a frame of its own where the class has it; after its return the class is initialised
unfoldable pub initialise : Context → List ℕ → Point → Result Went Stop
initialise c class p =
    if p.frame.body.pc == LAST then Ok (initialised c class p) else (
    looked_up (c.look.class class) >>= λ found.
    supers_first c (supers_of found) (initialiser_called c class (initialiser_of found.file)) p)
