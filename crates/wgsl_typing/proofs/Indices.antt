-- Locals by index.
use Rattle.wgsl_typing.proofs.Common.{ℕ, suc, List, [], ◌∷◌, ◌++◌, Bool, true, false, Option, Some, cond, ◌≡◌, ◌≤◌, ◌<◌, length, reverse, refl, sym, ap, ◌∙◌}
use Rattle.wgsl_typing.proofs.Common.{subst, arith, bytes_eq, drop, slice_get, BTreeMap, nat_cmp, Bor, reverse-append, length-reverse, btree_map_updates_str}
use Rattle.wgsl_typing.proofs.Common.{get_by, slice_cmp, Local, Block, in_block, names_of, start, AreNested, Gives, IsIndex, IsIndexed}
use Rattle.std.proofs.lemmas.Slice.Eq.{bytes_eq-Decides}

pub reverse_push : {A : Type 0} (xs : List A) (x : A) → reverse (xs ++ x ∷ []) ≡ x ∷ reverse xs
reverse_push xs x = reverse-append xs (x ∷ [])

abbrev pub Index : Type 0
Index = BTreeMap (Bor (List ℕ)) ℕ

pub index_declared : (index : ℕ) (old new : Index) (locals : List Local) (local : Local) → index ≡ length locals → local.shadowed ≡ get_by (λ k. slice_cmp nat_cmp local.name.now k.now) old →
    Gives local.name (Some index) old new → IsIndex old locals → IsIndex new (local ∷ locals)
index_declared index old new locals local here shadowed puts is = record {
  found = λ name. rw (← here) (btree_map_updates_str local.name.now old new (Some index) puts name ∙ ap (cond (bytes_eq local.name.now name) (Some index)) (is.found name));
  shadowing = (shadowed ∙ is.found local.name.now, is.shadowing);
}

restored : (key name : List ℕ) (b : Bool) (index : Option ℕ) (names : Block) → (b ≡ true → key ≡ name) → cond b (in_block key names) (cond b index (in_block name names)) ≡ in_block name names
restored key name true index names same = ap (λ n. in_block n names) (same refl)
restored key name false index names same = refl

pub index_forgotten : (shadowed : Option ℕ) (old new : Index) (locals : List Local) (local : Local) → local.shadowed ≡ shadowed → Gives local.name shadowed old new → IsIndex old (local ∷ locals) → IsIndex new locals
index_forgotten shadowed old new locals local same puts is = record {
  found = λ name. btree_map_updates_str local.name.now old new shadowed puts name
      ∙ rw (sym same ∙ is.shadowing.0, is.found name)
      (restored local.name.now name (bytes_eq local.name.now name) (Some (length locals)) (names_of locals) (bytes_eq-Decides local.name.now name).0);
  shadowing = is.shadowing.1;
}

-- where blocks begin

nested_more : (end more : ℕ) (starts : List ℕ) → end ≤ more → AreNested end starts → AreNested more starts
nested_more end more [] h nested = tt
nested_more end more (first ∷ starts) h nested = (let le : first ≤ end = nested.0 in omega arith, nested.1)

nested_less : (end : ℕ) (starts : List ℕ) → start starts ≤ end → AreNested (suc end) starts → AreNested end starts
nested_less end [] h nested = tt
nested_less end (first ∷ starts) h nested = (h, nested.1)

nested_closed : (end : ℕ) (starts : List ℕ) → AreNested end starts → AreNested end (drop 1 starts)
nested_closed end [] nested = tt
nested_closed end (first ∷ starts) nested = nested_more first end starts nested.0 nested.1

-- what methods keep

pub indexed_unchanged : (old new : Index) (locals : List Local) (starts : List ℕ) → new.entries ≡ old.entries → IsIndexed old locals starts → IsIndexed new locals starts
indexed_unchanged old new locals starts same is = record {
  index = record { found = λ name. rw same (is.index.found name); shadowing = is.index.shadowing };
  nested = is.nested;
}

pub indexed_declared : (index : ℕ) (old new : Index) (before after : List Local) (local : Local) (starts : List ℕ) → index ≡ length before → after ≡ before ++ local ∷ [] →
    local.shadowed ≡ get_by (λ k. slice_cmp nat_cmp local.name.now k.now) old → Gives local.name (Some index) old new → IsIndexed old (reverse before) starts → IsIndexed new (reverse after) starts
indexed_declared index old new before after local starts here pushed shadowed puts is = rw (pushed, reverse_push before local) record {
  index = index_declared index old new (reverse before) local (omega (arith, here, length-reverse before)) shadowed puts is.index;
  nested = nested_more (length (reverse before)) (suc (length (reverse before))) starts (omega arith) is.nested;
}

pub indexed_forgotten : (shadowed : Option ℕ) (old new : Index) (before after : List Local) (local : Local) (starts : List ℕ) → before ≡ after ++ local ∷ [] → start starts < length before →
    local.shadowed ≡ shadowed → Gives local.name shadowed old new → IsIndexed old (reverse before) starts → IsIndexed new (reverse after) starts
indexed_forgotten shadowed old new before after local starts popped below same puts is =
    let was : IsIndexed old (local ∷ reverse after) starts = subst (λ locals. IsIndexed old locals starts) (ap reverse popped ∙ reverse_push after local) is in
    let many : length before ≡ suc (length (reverse after)) = sym (length-reverse before) ∙ ap length (ap reverse popped ∙ reverse_push after local) in record {
      index = index_forgotten shadowed old new (reverse after) local same puts was.index;
      nested = nested_less (length (reverse after)) starts (omega (arith, below, many)) was.nested;
    }

pub indexed_opened : (index : Index) (locals : List Local) (starts : List ℕ) (first : ℕ) → first ≡ length locals → IsIndexed index locals starts → IsIndexed index locals (first ∷ starts)
indexed_opened index locals starts first here is = record { index = is.index; nested = (omega (arith, here), rw here is.nested) }

pub indexed_closed : (index : Index) (locals : List Local) (starts : List ℕ) → IsIndexed index locals starts → IsIndexed index locals (drop 1 starts)
indexed_closed index locals starts is = record { index = is.index; nested = nested_closed (length locals) starts is.nested }

-- the last one
pub last_is : {A : Type 0} (ys : List A) (y : A) → slice_get (ys ++ y ∷ []) (length ys) ≡ Some y
last_is [] y = refl
last_is (x ∷ ys) y = last_is ys y
