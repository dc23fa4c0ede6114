use Rattle.std.proofs.Common.{length, refl}
use Rattle.std.proofs.lemmas.Option.{slice_get_read}
use Rattle.wgsl_source.proofs.Members.{element_size}
use Rattle.wgsl_source.proofs.types.Types.least_size.Goals as goal

pub returns-in_ok-get-in-Array-default-Runtime : goal.returns-in_ok-get-in-Array-default-Runtime
returns-in_ok-get-in-Array-default-Runtime c =
    let array = c.in-Array-default-Runtime in
    let elements = c.deref.result.now in
    let element = c.in_ok-get-in-Array-default-Runtime.field-0.now in
    let lookup = c.in_ok-get-in-Array-default-Runtime.ensures.lookup in
    element_size c.args.self.now.elements.items elements c.args.ty.now element array.index array.field-1 c.stride.result c.deref.ensures.value array.is (rw array.is at array.field-1-is)
    (slice_get_read elements (length elements) array.index element refl lookup.3.0 lookup.1) c.stride.ensures
