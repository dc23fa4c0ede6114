use Rattle.std.proofs.Common.{refl}
use Rattle.wgsl_syntax.specs.declared.enumerant.Enumerant.TheVariants.{AccessMode, AddressSpace, TexelFormat}
use Rattle.wgsl_syntax.proofs.Naming.{enumerant_reads}
use Rattle.wgsl_syntax.proofs.enumerant.EnumerantFromStr.from_str.Goals as goal

pub returns-in-Ok : goal.returns-in-Ok
returns-in-Ok c =
    let read = (c.in-Ok.ensures c.in-Ok.access).0 refl in
    enumerant_reads c.args.s.now (AccessMode c.in-Ok.access) read (λ e. cc e)

pub returns-in-Ok-from_str : goal.returns-in-Ok-from_str
returns-in-Ok-from_str c =
    let read = (c.in-Ok-from_str.ensures c.in-Ok-from_str.space).0 refl in
    enumerant_reads c.args.s.now (AddressSpace c.in-Ok-from_str.space) read.0 (λ e. read.1 (cc e))

pub returns-in-Ok-from_str-2 : goal.returns-in-Ok-from_str-2
returns-in-Ok-from_str-2 c =
    let read = (c.in-Ok-from_str-2.ensures c.in-Ok-from_str-2.format).0 refl in
    enumerant_reads c.args.s.now (TexelFormat c.in-Ok-from_str-2.format) read (λ e. cc e)
