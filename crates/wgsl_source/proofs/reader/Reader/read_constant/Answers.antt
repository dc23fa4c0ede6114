use Rattle.std.proofs.Common.{subst}
use Rattle.wgsl_source.proofs.Meanings.{constant_sort}
use Rattle.wgsl_source.specs.WrittenTypes.{HasTypeIf, environment}
use Rattle.wgsl_source.proofs.reader.Reader.read_constant.Goals as goal

pub returns-clause-sort : goal.returns-clause-sort
returns-clause-sort c = λ is.
    let s = c.args.self.now.scope in
    let env = environment s c.declared_type.new.types in
    let ty = c.in_ok-ty.ty in
    constant_sort c.constant.result s.text env c.args.declaration.now _ ty is c.typed.ensures.value
    (subst (λ es. HasTypeIf s.text env es ty) c.typed.ensures.ty c.in_ok-ty.ensures.written) c.constant.ensures
