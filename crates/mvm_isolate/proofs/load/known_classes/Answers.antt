use Rattle.mvm_mirror.specs.Kept.{classes_of}
use Rattle.mvm_isolate.proofs.load.known_classes.Goals as goal

pub returns-clause-known : goal.returns-clause-known
returns-clause-known g c =
    let l2 = c.known_class-2.ensures.loads.numbers in
    let l3 = c.known_class-3.ensures.loads.numbers in
    let l4 = c.known_class-4.ensures.loads.numbers in
    let l5 = c.known_class-5.ensures.loads.numbers in
    let l6 = c.thrown_classes.ensures.loads.numbers in
    record {
      string = l6 _ _ (l5 _ _ (l4 _ _ (l3 _ _ (l2 _ _ c.in_ok-string.ensures.number))));
      object = l6 _ _ (l5 _ _ (l4 _ _ (l3 _ _ c.in_ok-object.ensures.number)));
      class = l6 _ _ (l5 _ _ (l4 _ _ c.in_ok-class.ensures.number));
      stream = l6 _ _ (l5 _ _ c.in_ok-stream.ensures.number);
      thread = l6 _ _ c.in_ok-thread.ensures.number;
      thrown = c.in_ok-thrown.ensures.thrown;
    }
