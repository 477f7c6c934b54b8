use Rattle.std.proofs.Common.{◌≡◌, ◌+◌, ◌++◌, drop}
use Rattle.mvm_listing.specs.Disassembly.{byte_pieces}
use Rattle.mvm_disassembler.proofs.pieces.push_bytes.Given as goal

-- with the bytes that are left all are added
abbrev pub invariant-loop-byte : goal.invariant-loop-byte
invariant-loop-byte l = record {
  place : l.place ≡ l.at + l.byte-index;
  added : l.out.items ++ byte_pieces l.place (drop l.byte-index l.bytes) ≡ l.initial.out.items ++ byte_pieces l.at l.bytes;
}
