use Rattle.wgsl_requests.proofs.Shared.{◌≡◌, ◌++◌, string_bytes, placed_lines}
use Rattle.std.specs.Iterator.Adapters.{zip_first, zip_second}
use Rattle.std.specs.Slice.Iter.{iter_rest}
use Rattle.wgsl_requests.proofs.write.layout.write_members.Given as goal

-- what is written, and the lines of the members that are left
abbrev pub invariant-loop-member : goal.invariant-loop-member
invariant-loop-member l =
    string_bytes l.text ++ placed_lines (iter_rest (zip_first l.member-iterator)) (iter_rest (zip_second l.member-iterator)) ≡ string_bytes l.fn.text ++ placed_lines l.members l.placed
