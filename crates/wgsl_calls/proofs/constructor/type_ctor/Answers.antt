use Rattle.std.proofs.Common.{◌≡◌, Some, None, Err, ap, sym, ◌∙◌, map, option_map}
use Rattle.wgsl_calls.proofs.Common.{signature, IsVectorCall, IsMatrixCall, view, constructor_view}
use Rattle.wgsl_rules.specs.constructors.Constructors.{makes_array, makes_scalar, makes_vector, makes_matrix, IsConstructorAnswer, IsArrayCall, scalar_call}
use Rattle.wgsl_core.specs.Instances.{parameter_view, call_view}
use Rattle.wgsl_calls.proofs.AnswersAs.{answers}
use Rattle.wgsl_calls.proofs.Constructed.{built}
use Rattle.wgsl_calls.proofs.OutOfMemory.{scalar_made}
use Rattle.wgsl_calls.proofs.ChosenConstructors.{constructor_is_least, least_returned}
use Rattle.wgsl_calls.proofs.constructor.type_ctor.Goals as goal

pub returns-in-Some-Array-clause-row : goal.returns-in-Some-Array-clause-row
returns-in-Some-Array-clause-row c =
    let call = call_view c.args.name.now c.args.tplt c.args.args.now in
    answers view (IsArrayCall (option_map (λ ps. map parameter_view ps.now) c.args.tplt) (map view c.args.args.now)) (IsConstructorAnswer call) c.array_type.result
    (built (Some makes_array) call (sym (ap (λ k. Some (constructor_view k)) c.in-Some-Array.field-0-is) ∙ c.in-Some-Array.ensures)) c.array_type.ensures

pub returns-in-Some-Scalar-clause-row : goal.returns-in-Some-Scalar-clause-row
returns-in-Some-Scalar-clause-row c =
    let call = call_view c.args.name.now c.args.tplt c.args.args.now in
    answers view (λ r. r ≡ scalar_call c.in-Some-Scalar.scalar (option_map (λ ps. map parameter_view ps.now) c.args.tplt) (map view c.args.args.now) (signature (call_view c.args.name.now c.args.tplt c.args.args.now))) (IsConstructorAnswer call) c.scalar_type.result
    (built (Some (makes_scalar c.in-Some-Scalar.scalar)) call (sym (ap (λ k. Some (constructor_view k)) c.in-Some-Scalar.field-0-is) ∙ c.in-Some-Scalar.ensures)) c.scalar_type.ensures.row

pub returns-in-Some-Vec-clause-row : goal.returns-in-Some-Vec-clause-row
returns-in-Some-Vec-clause-row c =
    let call = call_view c.args.name.now c.args.tplt c.args.args.now in
    answers view (IsVectorCall c.args.name.now c.in-Some-Vec.n (option_map (λ ps. map parameter_view ps.now) c.args.tplt) (map view c.args.args.now)) (IsConstructorAnswer call) c.vector_type.result
    (built (Some (makes_vector c.in-Some-Vec.n)) call (sym (ap (λ k. Some (constructor_view k)) c.in-Some-Vec.field-0-is) ∙ c.in-Some-Vec.ensures)) c.vector_type.ensures

pub returns-in-Some-Mat-clause-row : goal.returns-in-Some-Mat-clause-row
returns-in-Some-Mat-clause-row c =
    let call = call_view c.args.name.now c.args.tplt c.args.args.now in
    answers view (IsMatrixCall c.args.name.now c.in-Some-Mat.c c.in-Some-Mat.r (option_map (λ ps. map parameter_view ps.now) c.args.tplt) (map view c.args.args.now)) (IsConstructorAnswer call) c.matrix_type.result
    (built (Some (makes_matrix c.in-Some-Mat.c c.in-Some-Mat.r)) call (sym (ap (λ k. Some (constructor_view k)) c.in-Some-Mat.field-0-is) ∙ c.in-Some-Mat.ensures)) c.matrix_type.ensures

pub returns-in_ok-refuse_call-in-None-clause-row : goal.returns-in_ok-refuse_call-in-None-clause-row
returns-in_ok-refuse_call-in-None-clause-row c =
    built None (call_view c.args.name.now c.args.tplt c.args.args.now) c.in-None.ensures _ (ap Err c.in_ok-refuse_call-in-None.ensures)

pub returns-in-Some-Array-clause-least : goal.returns-in-Some-Array-clause-least
returns-in-Some-Array-clause-least c =
    least_returned (call_view c.args.name.now c.args.tplt c.args.args.now) c.array_type.result (returns-in-Some-Array-clause-row c)

pub returns-in-Some-Scalar-clause-least : goal.returns-in-Some-Scalar-clause-least
returns-in-Some-Scalar-clause-least c =
    least_returned (call_view c.args.name.now c.args.tplt c.args.args.now) c.scalar_type.result (returns-in-Some-Scalar-clause-row c)

pub returns-in-Some-Vec-clause-least : goal.returns-in-Some-Vec-clause-least
returns-in-Some-Vec-clause-least c =
    least_returned (call_view c.args.name.now c.args.tplt c.args.args.now) c.vector_type.result (returns-in-Some-Vec-clause-row c)

pub returns-in-Some-Mat-clause-least : goal.returns-in-Some-Mat-clause-least
returns-in-Some-Mat-clause-least c =
    least_returned (call_view c.args.name.now c.args.tplt c.args.args.now) c.matrix_type.result (returns-in-Some-Mat-clause-row c)

pub returns-in_ok-refuse_call-in-None-clause-least : goal.returns-in_ok-refuse_call-in-None-clause-least
returns-in_ok-refuse_call-in-None-clause-least c =
    constructor_is_least (call_view c.args.name.now c.args.tplt c.args.args.now) _ (returns-in_ok-refuse_call-in-None-clause-row c)

pub returns-in-Some-Scalar-clause-never_out_of_memory : goal.returns-in-Some-Scalar-clause-never_out_of_memory
returns-in-Some-Scalar-clause-never_out_of_memory c h =
    let made = scalar_made c.in-Some-Scalar.scalar (call_view c.args.name.now c.args.tplt c.args.args.now)
    (sym (ap (λ k. Some (constructor_view k)) c.in-Some-Scalar.field-0-is) ∙ c.in-Some-Scalar.ensures) h in
    c.scalar_type.ensures.never_out_of_memory made.0 made.1
