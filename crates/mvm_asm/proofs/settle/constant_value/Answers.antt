use Rattle.mvm_asm.proofs.settle.constant_value.Goals as goal

pub returns : goal.returns
returns c =
    let n = c.in_ok-name.ensures in
    rw n at c.text.ensures
