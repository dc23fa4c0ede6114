-- The events of the tree of a type make its chain.
use Rattle.std.proofs.Common.{◌≡◌, ◌<◌, ◌≤◌, ◌+◌, ◌++◌, ℕ, suc, List, Option, Some, None, codes, cond, decimal, length, refl, ap, ◌∙◌, arith, lt-ltb}
use Rattle.wgsl_spelling.proofs.Common.{access_text, space_text_by, flag_text, scalar_text, texel_text_by, sampled_text, sampler_text, texture_name, name_of, parameters_of, texture_with, AccessMode, AddressSpace, Around, Array, Vec, Mat, BindingArray, Atomic, Ptr, Ref, AccelerationStructureFlags, RuleSet, TextureType, TextureParameters, then, map_value, Chain, push, with_name, with_plain, with_type, with_word, access_named, space_named, predeclared, nothing, with_listed, listed_by, listed_in, word, IsWritable, layers, Leaf, Item, Parameters, One, Two}
use Rattle.wgsl_syntax.specs.declared.texture_name.TextureParameters.TheVariants as parameters
use Rattle.wgsl_rules.specs.types.Types.{WgslType, scalar, struct, atomic, pointer, reference, texture, sampler, binding_array, ray_query, acceleration_structure, array, vec, mat}
use Rattle.wgsl_spelling.specs.declared.chain.Leaf.TheVariants as leaf
use Rattle.wgsl_spelling.specs.declared.list.Listed.{Listed}
use Rattle.wgsl_spelling.specs.declared.list.Listed.TheVariants as listed
use Rattle.wgsl_spelling.specs.declared.predeclared.LayerName.TheVariants as layer
use Rattle.wgsl_spelling.specs.declared.predeclared.PredeclaredType.{PredeclaredType}
use Rattle.wgsl_spelling.specs.declared.predeclared.PredeclaredType.TheVariants as p
use Rattle.wgsl_reader.specs.declared.kind.Kind.TheVariants as k
use Rattle.wgsl_spelling.proofs.Evaluated.{alone, closing, eval, made, parameters as given, template}
use Rattle.wgsl_spelling.proofs.Names.{access_back, flag_back, sampled_back}
use Rattle.wgsl_spelling.proofs.NamesGood.{format_back, mat_named, sampler_named, scalar_named, side, space_back, texture_back, texture_named, vec_named}
use Rattle.wgsl_spelling.proofs.Placed.{Located}
use Rattle.wgsl_spelling.proofs.Trees.{Tree, digits, list, name, parts, past, token}
use Rattle.wgsl_spelling.proofs.TypeTrees.{around_of, chain, layers_of, of_leaf, texture_tree, tree, tree_part}

-- a tree in a text is a type with this chain
pub record Read (whole : List ℕ) (t : Tree) (at : ℕ) (c : Chain) : Type 0 where
  pub after : Chain
  pub evaluated : eval whole t at nothing.chain ≡ Some after
  pub typed : with_type whole (made t at) after ≡ Some c

abbrev memory_of : Item → AddressSpace → AccessMode → AddressSpace × Item × AccessMode
memory_of i s m = (s, i, m)

module _ (whole : List ℕ) where
  -- a name alone
  named_read : (w : List ℕ) (at : ℕ) (named : PredeclaredType) (c : Chain) → word whole (token k.Name at (length w)) ≡ w → predeclared w ≡ Some named → with_name nothing.chain named ≡ Some c
      → Read whole (name w) at c
  named_read w at named c located is found = record {
    after = nothing.chain;
    evaluated = refl;
    typed = ap (λ v. with_word (token k.Name at (length w)) nothing.chain (predeclared v)) located ∙ (ap (with_word (token k.Name at (length w)) nothing.chain) is ∙ found);
  }

  -- a name with a list
  list_is : (w : List ℕ) (at : ℕ) (named : PredeclaredType) (ps : Parameters) (x : Listed) → word whole (token k.Name at (length w)) ≡ w → predeclared w ≡ Some named → listed_by whole named ps ≡ Some x
      → listed_in whole (template w at ps) ≡ Some x
  list_is w at named ps x located is found = rw (located, is) found

  closes : (w : List ℕ) (at : ℕ) (ps : Parameters) (x : Listed) (c d : Chain) → listed_in whole (template w at ps) ≡ Some x → with_listed whole x c ≡ Some d → closing whole (template w at ps) c ≡ Some d
  closes w at ps x c d is found = ap (λ o. then o (λ x. with_listed whole x c)) is ∙ found

  with_layer : (l : Around) (i : Item) (c d : Chain) → with_type whole i c ≡ Some d → length d.layers < 255 → with_listed whole (listed.Around l i) c ≡ Some (around_of l d)
  with_layer l i c d is few = ap (λ o. then o (push l)) is ∙ ap (λ b. cond b (Some (around_of l d)) None) (lt-ltb (length d.layers) 255 few)

  -- a list whose only type stands at an index
  layer_read : (w : List ℕ) (t a : Tree) (at second : ℕ) (named : PredeclaredType) (l : Around) (c : Chain) → word whole (token k.Name at (length w)) ≡ w → predeclared w ≡ Some named
      → listed_by whole named (given t (suc (at + length w))) ≡ Some (listed.Around l (made a second)) → eval whole t (suc (at + length w)) nothing.chain ≡ eval whole a second nothing.chain
      → Read whole a second c → length c.layers < 255 → Read whole (list w t) at (around_of l c)
  layer_read w t a at second named l c located is found same r few =
      let from = suc (at + length w) in
      record {
        after = around_of l c;
        evaluated = ap (λ o. then o (closing whole (template w at (given t from)))) (same ∙ r.evaluated)
            ∙ closes w at (given t from) (listed.Around l (made a second)) r.after (around_of l c) (list_is w at named (given t from) (listed.Around l (made a second)) located is found) (with_layer l (made a second) r.after c r.typed few);
        typed = refl;
      }

  one_read : (rules : RuleSet) (w : List ℕ) (t : WgslType) (at : ℕ) (named : PredeclaredType) (l : Around) → word whole (token k.Name at (length w)) ≡ w → predeclared w ≡ Some named
      → listed_by whole named (One (made (tree rules t) (suc (at + length w)))) ≡ Some (listed.Around l (made (tree rules t) (suc (at + length w)))) → Read whole (tree rules t) (suc (at + length w)) (chain t)
      → length (chain t).layers < 255 → Read whole (list w (tree rules t)) at (around_of l (chain t))
  one_read rules w t at named l located is found =
      layer_read w (tree rules t) (tree rules t) at (suc (at + length w)) named l (chain t) located is (ap (listed_by whole named) (alone (tree_part rules t) (suc (at + length w))) ∙ found) refl

  unchanged : (o : Option Chain) (f : Chain → Option Chain) → ((c : Chain) → f c ≡ Some c) → then o f ≡ o
  unchanged None f same = refl
  unchanged (Some c) f same = same c

  -- the address space and the access mode
  pointer_is : (rules : RuleSet) (s : AddressSpace) (m : AccessMode) (x y : List ℕ) (i : Item) → x ≡ space_text_by rules s → y ≡ access_text m
      → then (space_named x) (λ s. map_value (memory_of i s) (access_named y)) ≡ Some (memory_of i s m)
  pointer_is rules s m x y i is_space is_access = rw (is_space, space_back rules s, is_access, access_back m) refl

  -- textures
  texture_read : (rules : RuleSet) (x : TextureType) (ps : TextureParameters) (at : ℕ) → texture_with (name_of x) ps ≡ Some x → Located whole (texture_tree rules (texture_name x) ps) at
      → Read whole (texture_tree rules (texture_name x) ps) at (of_leaf (leaf.Texture x))
  texture_read rules x parameters.None at made_of located =
      named_read (texture_name x) at (p.Texture (name_of x)) (of_leaf (leaf.Texture x)) located (texture_named (name_of x))
      (ap (λ o. then (map_value (λ x. (leaf.Texture x, None)) o) (with_plain nothing.chain)) made_of)
  texture_read rules x (parameters.Sampled s) at made_of located =
      let n = name_of x in
      let from = suc (at + length (texture_name x)) in
      let ps = One (made (name (sampled_text s)) from) in
      let found : listed_by whole (p.Texture n) ps ≡ Some (listed.Leaf (leaf.Texture x)) = rw (located.1, sampled_back s, made_of) refl in
      record {
        after = of_leaf (leaf.Texture x);
        evaluated = closes (texture_name x) at ps (listed.Leaf (leaf.Texture x)) nothing.chain (of_leaf (leaf.Texture x))
            (list_is (texture_name x) at (p.Texture n) ps (listed.Leaf (leaf.Texture x)) located.0 (texture_named n) found) refl;
        typed = refl;
      }
  texture_read rules x (parameters.Storage f m) at made_of located =
      let n = name_of x in
      let from = suc (at + length (texture_name x)) in
      let second = suc (suc (past (name (texel_text_by rules f)) from)) in
      let ps = Two (made (name (texel_text_by rules f)) from) (made (name (access_text m)) second) in
      let found : listed_by whole (p.Texture n) ps ≡ Some (listed.Leaf (leaf.Texture x)) = rw (located.1.0, format_back rules f, located.1.1, access_back m, made_of) refl in
      record {
        after = of_leaf (leaf.Texture x);
        evaluated = closes (texture_name x) at ps (listed.Leaf (leaf.Texture x)) nothing.chain (of_leaf (leaf.Texture x))
            (list_is (texture_name x) at (p.Texture n) ps (listed.Leaf (leaf.Texture x)) located.0 (texture_named n) found) refl;
        typed = refl;
      }

  -- a name with a flag
  flag_read : (w : List ℕ) (f : AccelerationStructureFlags) (at : ℕ) (named : PredeclaredType) (of : AccelerationStructureFlags → Leaf)
      → ((ps : Parameters) → listed_by whole named ps ≡ map_value (λ f. listed.Leaf (of f)) (Rattle.wgsl_spelling.specs.Templates.flag whole ps)) → predeclared w ≡ Some named
      → Located whole (list w (name (flag_text f))) at → Read whole (list w (name (flag_text f))) at (of_leaf (of f))
  flag_read w f at named of by is located =
      let ps = One (made (name (flag_text f)) (suc (at + length w))) in
      let found : listed_by whole named ps ≡ Some (listed.Leaf (of f)) =
      by ps ∙ rw (located.1, flag_back f) refl in
      record {
        after = of_leaf (of f);
        evaluated = closes w at ps (listed.Leaf (of f)) nothing.chain (of_leaf (of f)) (list_is w at named ps (listed.Leaf (of f)) located.0 is found) refl;
        typed = refl;
      }

  few : (t : WgslType) → suc (layers t) ≤ 255 → length (chain t).layers < 255
  few t is = omega (arith, is, layers_of t)

  less : (t : WgslType) → suc (layers t) ≤ 255 → layers t ≤ 255
  less t is = omega (arith, is)

  pub reads : (rules : RuleSet) (t : WgslType) (at : ℕ) → IsWritable t → layers t ≤ 255 → Located whole (tree rules t) at → Read whole (tree rules t) at (chain t)
  reads rules (scalar s) at is shallow located = named_read (scalar_text s) at (p.Scalar s) (chain (scalar s)) located (scalar_named s) refl
  reads rules (array None t) at is shallow located =
      one_read rules (codes "array") t at (p.Layer layer.Array) (Array None) located.0 refl refl (reads rules t _ is.1 (less t shallow) located.1) (few t shallow)
  reads rules (array (Some n) t) at is shallow located =
      layer_read (codes "array") (parts (tree rules t) (digits n)) (tree rules t) at _ (p.Layer layer.Array) (Array (Some n)) (chain t) located.0 refl refl (unchanged _ _ (λ c. refl)) (reads rules t _ is.1 (less t shallow) located.1.0) (few t shallow)
  reads rules (vec n t) at is shallow located =
      one_read rules (codes "vec" ++ decimal n) t at (p.Layer (layer.Vec n)) (Vec n) located.0 (vec_named (side n is.0)) refl (reads rules t _ is.1 (less t shallow) located.1) (few t shallow)
  reads rules (mat c r t) at is shallow located =
      one_read rules (codes "mat" ++ (decimal c ++ (codes "x" ++ decimal r))) t at (p.Layer (layer.Mat c r)) (Mat c r) located.0 (mat_named (side c is.0.0) (side r is.0.1)) refl
      (reads rules t _ is.1 (less t shallow) located.1) (few t shallow)
  reads rules (struct w ms) at is shallow located = absurd is
  reads rules (atomic t) at is shallow located =
      one_read rules (codes "atomic") t at (p.Layer layer.Atomic) Atomic located.0 refl refl (reads rules t _ is (less t shallow) located.1) (few t shallow)
  reads rules (pointer s t m) at is shallow located =
      layer_read (codes "ptr") (parts (name (space_text_by rules s)) (parts (tree rules t) (name (access_text m)))) (tree rules t) at _ (p.Layer layer.Pointer) (Ptr s m) (chain t) located.0 refl
      (ap (map_value (λ found. listed.Around (Ptr found.0 found.2) found.1)) (pointer_is rules s m _ _ _ located.1.0 located.1.1.1)) (unchanged _ _ (λ c. refl)) (reads rules t _ is (less t shallow) located.1.1.0) (few t shallow)
  reads rules (reference s t m) at is shallow located =
      layer_read (codes "ref") (parts (name (space_text_by rules s)) (parts (tree rules t) (name (access_text m)))) (tree rules t) at _ (p.Layer layer.Reference) (Ref s m) (chain t) located.0 refl
      (ap (map_value (λ found. listed.Around (Ref found.0 found.2) found.1)) (pointer_is rules s m _ _ _ located.1.0 located.1.1.1)) (unchanged _ _ (λ c. refl)) (reads rules t _ is (less t shallow) located.1.1.0) (few t shallow)
  reads rules (texture x) at is shallow located = texture_read rules x (parameters_of x) at (texture_back x) located
  reads rules (sampler s) at is shallow located = named_read (sampler_text s) at (p.Sampler s) (chain (sampler s)) located (sampler_named s) refl
  reads rules (binding_array None t) at is shallow located =
      one_read rules (codes "binding_array") t at (p.Layer layer.BindingArray) (BindingArray None) located.0 refl refl (reads rules t _ is.1 (less t shallow) located.1) (few t shallow)
  reads rules (binding_array (Some n) t) at is shallow located =
      layer_read (codes "binding_array") (parts (tree rules t) (digits n)) (tree rules t) at _ (p.Layer layer.BindingArray) (BindingArray (Some n)) (chain t) located.0 refl refl (unchanged _ _ (λ c. refl)) (reads rules t _ is.1 (less t shallow) located.1.0) (few t shallow)
  reads rules (ray_query None) at is shallow located = named_read (codes "ray_query") at p.RayQuery (chain (ray_query None)) located refl refl
  reads rules (ray_query (Some f)) at is shallow located = flag_read (codes "ray_query") f at p.RayQuery (λ f. leaf.RayQuery (Some f)) (λ ps. refl) refl located
  reads rules (acceleration_structure None) at is shallow located =
      named_read (codes "acceleration_structure") at p.AccelerationStructure (chain (acceleration_structure None)) located refl refl
  reads rules (acceleration_structure (Some f)) at is shallow located =
      flag_read (codes "acceleration_structure") f at p.AccelerationStructure (λ f. leaf.AccelerationStructure (Some f)) (λ ps. refl) refl located
