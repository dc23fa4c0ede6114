use Rattle.std.proofs.Common.{[], ◌∷◌, ap, map, sym, ◌∙◌, append-nil}
use Rattle.wgsl_source.proofs.Common.{map-append, kept_listed, left_listed, names_of, none_listed}
use Rattle.wgsl_source.proofs.listed.Listed.list_struct.Goals as goal

pub returns-in_ok-push-in-Some : goal.returns-in_ok-push-in-Some
returns-in_ok-push-in-Some c = λ t env structs kind meant. record {
  indices = c.in-Some.index ∷ [];
  names = [];
  more_indices = c.in_ok-push-in-Some.ensures.items;
  more_names = sym (append-nil (names_of c.args.self.now));
  are = kept_listed kind (c.in-Some.ensures t env structs c.args.declaration.now kind meant) none_listed;
}

pub returns-in_ok-push-in-None : goal.returns-in_ok-push-in-None
returns-in_ok-push-in-None c = λ t env structs kind meant. record {
  indices = [];
  names = c.args.declaration.now.name.now ∷ [];
  more_indices = sym (append-nil c.args.self.now.in_text.items);
  more_names = ap (map (λ name. name.now)) c.in_ok-push-in-None.ensures.items ∙ map-append (λ name. name.now) c.args.self.now.left_out.items (c.args.declaration.now.name ∷ []);
  are = left_listed kind none_listed;
}
