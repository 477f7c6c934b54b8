use Rattle.mvm_isolate.specs.Numbered.{named}
use Rattle.mvm_member.specs.Members.{place_of}
use Rattle.mvm_object.proofs.Placing.{no_place}
use Rattle.mvm_object.proofs.fields.place_in.Goals as goal

pub returns-in-None-clause-is : goal.returns-in-None-clause-is
returns-in-None-clause-is c =
    no_place (place_of c.args.member.now.name c.args.member.now.desc c.args.class.now) (named c.args.isolate.now).heap.objects c.args.object c.nowhere.result
    (rw (c.name.ensures, c.desc.ensures) at c.in-None.ensures.none) c.nowhere.ensures.is c.nowhere.ensures.stop
