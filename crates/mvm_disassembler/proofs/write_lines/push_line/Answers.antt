use Rattle.mvm_disassembler.proofs.write_lines.push_line.Goals as goal

pub returns : goal.returns
returns c = c.push_shown.ensures
