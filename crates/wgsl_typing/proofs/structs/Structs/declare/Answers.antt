use Rattle.std.proofs.Common.{◌≡◌, length, arith}
use Rattle.wgsl_typing.proofs.StructNames.{named_declared, struct_declared}
use Rattle.wgsl_typing.proofs.structs.Structs.declare.Goals as goal

pub returns-clause-declared : goal.returns-clause-declared
returns-clause-declared c = λ are.
    let here : c.len.result ≡ length c.args.self.now.declared.items = omega (arith, c.len.ensures) in
    struct_declared c.args.name c.args.declared c.len.result c.args.self.now (record { declared = c.push.new.self; names = c.insert.new.self })
    here c.in_ok-insert.ensures.updates c.in_ok-push.ensures.items are

pub returns-clause-named : goal.returns-clause-named
returns-clause-named c = λ are.
    let here : c.len.result ≡ length c.args.self.now.declared.items = omega (arith, c.len.ensures) in
    named_declared c.args.name c.args.declared c.len.result c.args.self.now (record { declared = c.push.new.self; names = c.insert.new.self })
    here c.in_ok-insert.ensures.updates c.in_ok-push.ensures.items are
