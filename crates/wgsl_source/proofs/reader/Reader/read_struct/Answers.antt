use Rattle.std.proofs.Common.{ℕ, arith, refl, subst}
use Rattle.wgsl_source.proofs.Common.{IsTypeOf, KnownAt}
use Rattle.wgsl_source.proofs.Structs.{keeps_grown, keeps_one}
use Rattle.wgsl_source.proofs.reader.Reader.read_struct.Goals as goal

pub returns-clause-kept : goal.returns-clause-kept
returns-clause-kept c = record {
  struct = c.in_ok-structure.structure;
  from = c.in_ok-structure.ensures.declared;
  kept = c.in_ok-push.ensures.items;
  type = c.measured-ty.result;
  named = refl;
  is = subst (λ (n : ℕ). IsTypeOf c.in_ok-structure.structure n c.measured-ty.result) (omega (arith, c.args.self.now.structs.ok.0, c.len.ensures)) c.measured-ty.ensures;
}

pub returns-in_err-push-clause-keeps : goal.returns-in_err-push-clause-keeps
returns-in_err-push-clause-keeps c = keeps_grown (KnownAt c.args.declaration.now) c.args.self.now _ c.in_ok-structure.ensures.grows c.in_err-push.ensures.items refl

pub returns-clause-keeps : goal.returns-clause-keeps
returns-clause-keeps c =
    let s = c.in_ok-structure.ensures in
    keeps_one c.args.declaration.now c.args.self.now _ c.in_ok-structure.structure s.grows c.in_ok-push.ensures.items
    (record { layout = s.layout; measured = s.measured; runtime_sized = s.runtime_sized }) refl s.declared

pub returns-in_err-structure-clause-keeps : goal.returns-in_err-structure-clause-keeps
returns-in_err-structure-clause-keeps c = keeps_grown (KnownAt c.args.declaration.now) c.args.self.now _ c.in_err-structure.ensures.grows refl refl
