use Rattle.std.proofs.Common.{◌∙◌, subst, sym}
use Rattle.wgsl_core.proofs.Common.{view, IsMeasure}
use Rattle.wgsl_core.specs.declared.layout.placing.Placing.{Placing}
use Rattle.wgsl_core.proofs.Layouts.{MeasureSoFar, matrix_measure, array_measure, measure_starts, measure_stops, measure_goes_on, measure_ends}
use Rattle.wgsl_core.proofs.Scalars.{scalar_is}
use Rattle.wgsl_core.proofs.+measure.Goals as goal

pub ty::Type::measure-returns-in-Some : goal.ty::Type::measure-returns-in-Some
ty::Type::measure-returns-in-Some t c =
    let is = (scalar_is (view c.args.self.now) c.in-Some.scalar).0 (sym c.scalar.ensures ∙ c.in-Some.is) in
    subst (λ u. IsMeasure c.args.rules u c.measure_of_scalar.result) (sym is) (c.measure_of_scalar.ensures c.args.rules)

pub layout::vector_measure-vector_of-requires : goal.layout::vector_measure-vector_of-requires
layout::vector_measure-vector_of-requires t c =
    let is = (scalar_is (view c.args.ty.now) c.in-Some.scalar).0 (sym c.scalar.ensures ∙ c.in-Some.is) in
    subst (λ u. IsMeasure c.args.rules u c.measure_of_scalar.result) (sym is) (c.measure_of_scalar.ensures c.args.rules)

pub layout::matrix_measure-returns : goal.layout::matrix_measure-returns
layout::matrix_measure-returns t c =
    matrix_measure c.args.columns c.args.rows c.from.result (view c.args.ty.now) c.measure-component.result c.times.result c.vector_align-align.result
    c.from.ensures c.measure-component.ensures c.times.ensures c.vector_align-align.ensures

pub layout::array_measure-returns : goal.layout::array_measure-returns
layout::array_measure-returns t c =
    array_measure c.args.count (view c.args.ty.now) c.measure-element.result c.rounded_up.result c.array_size.result
    c.measure-element.ensures c.rounded_up.ensures c.array_size.ensures

pub ty::StructType::measure-loop-member-init : goal.ty::StructType::measure-loop-member-init
ty::StructType::measure-loop-member-init t c =
    let items = c.deref-member-items.result.now in
    subst (λ (p : Placing). MeasureSoFar c.args.rules p.end p.greatest items 0) (sym c.start-placing.ensures) (measure_starts items)

pub ty::StructType::measure-returns-in_default : goal.ty::StructType::measure-returns-in_default
ty::StructType::measure-returns-in_default t c =
    let l = c.loop-member in
    measure_stops c.args.self.now l.placing.end c.measure-measure.result.align l.placing.greatest c.deref-member-items.result.now l.member-index c.member-item.result
    c.deref-member-items.ensures.value c.loop-member-test.true c.member-item.is c.in_default.not-Some c.measure-measure.ensures.align l.invariant

pub ty::StructType::measure-loop-member-preserved :
    goal.ty::StructType::measure-loop-member-preserved
ty::StructType::measure-loop-member-preserved t c =
    let l = c.loop-member in
    measure_goes_on l.placing.end c.measure-measure.result.size c.measure-measure.result.align c.place.new.self.end l.placing.greatest c.in-Some.align c.place.new.self.greatest
    c.deref-member-items.result.now l.member-index c.member-item.result
    c.loop-member-test.true c.member-item.is c.measure-measure.ensures.size c.in-Some.is c.measure-measure.ensures.align c.place.ensures.end c.place.ensures.greatest l.invariant

pub ty::StructType::measure-returns : goal.ty::StructType::measure-returns
ty::StructType::measure-returns t c =
    let l = c.loop-member in
    measure_ends c.args.self.now l.placing.end c.size.result l.placing.greatest c.deref-member-items.result.now l.member-index
    c.deref-member-items.ensures.value c.loop-member-test.false c.size.ensures l.invariant
