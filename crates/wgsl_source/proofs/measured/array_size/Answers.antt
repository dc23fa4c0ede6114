use Rattle.std.proofs.Common.{ℕ, Option, subst, sym}
use Rattle.wgsl_source.proofs.Common.{IsArraySize, IsExactly, IsValue}
use Rattle.wgsl_source.proofs.measured.array_size.Goals as goal

pub returns-in-Some : goal.returns-in-Some
returns-in-Some c = subst (λ (k : Option ℕ). IsExactly c.known_array_size.result (IsArraySize k (IsValue c.args.stride))) (sym c.in-Some.is) c.known_array_size.ensures
