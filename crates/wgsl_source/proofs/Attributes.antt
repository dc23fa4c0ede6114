-- The attributes that are read so far.
use Rattle.std.proofs.Common.{◌≡◌, ◌≢◌, ℕ, List, [], ◌∷◌, ◌++◌, Option, Some, None, drop, take, ap, refl, sym, subst, ◌∙◌, append-nil, pos}
use Rattle.std.specs.Option.{option_or}
use Rattle.wgsl_source.proofs.Common.{Event, attribute_len, Text}
use Rattle.wgsl_source.specs.Attributes.{AreRead, Attribute, GiveExtents, GivesNumber, InFront, IsGivenBy, IsSaid, Say, arguments_if, attribute_of, last_said, no_more, one_more, stage_by}
use Rattle.wgsl_source.specs.Declarations.{without_last}
use Rattle.wgsl_source.specs.WrittenTypes.{HasValue}
use Rattle.wgsl_source.specs.declared.scope.Meaning.{Meaning}
use Rattle.wgsl_source.specs.internal.Others.{Adds, Sets}
use Rattle.wgsl_source.specs.declared.attribute.Attributes.{Attributes}
use Rattle.wgsl_source.specs.declared.attribute.Name.{Name}
use Rattle.wgsl_source.specs.declared.value.Value.{Value}
use Rattle.wgsl_source.specs.declared.value.Value.TheVariants as value
use Rattle.wgsl_constants.specs.Conversions.{number}
use Rattle.wgsl_constants.specs.declared.constant.Constant.TheVariants as constant
use Rattle.wgsl_constants.specs.declared.integer.Integer.{Integer}
use Rattle.wgsl_source.specs.declared.attribute.Name.TheVariants as name

module _ (t : Text) (named : List ℕ → Option Meaning) where
  -- the number that an integer is
  pub number_said : (argument : List Event) (v : Value) (i : Integer) (n : ℕ) → HasValue t named (without_last argument) v → v ≡ value.Known (constant.Integer i) → number i ≡ pos n → GivesNumber t named argument n
  number_said argument v i n is at same = (i, subst (λ v. HasValue t named (without_last argument) v) at is, same)

-- one attribute more is said

or_none : {A : Type 0} (o : Option A) → option_or o None ≡ o
or_none (Some a) = refl
or_none None = refl

or_or : {A : Type 0} (o p q : Option A) → option_or (option_or o p) q ≡ option_or o (option_or p q)
or_or (Some a) p q = refl
or_or None p q = refl

last_behind : {A : Type 0} (says : Attribute → Option A) (ss : List Attribute) (a : Attribute) → last_said says (ss ++ a ∷ []) ≡ option_or (says a) (last_said says ss)
last_behind says [] a = sym (or_none (says a))
last_behind says (x ∷ ss) a = ap (λ o. option_or o (says x)) (last_behind says ss a) ∙ or_or (says a) (last_said says ss) (says x)

module _ (t : Text) (named : List ℕ → Option Meaning) where
  said_behind : {A : Type 0} (Gives : List Event → A → Type 0) (n : Name) (ss : List Attribute) (a : Attribute) (old new : Option A) → IsSaid Gives n ss old → Sets Gives (arguments_if n a) old new
      → IsSaid Gives n (ss ++ a ∷ []) new
  said_behind Gives n ss a old new is sets = subst (λ o. IsGivenBy Gives o new) (sym (last_behind (arguments_if n) ss a)) (set (arguments_if n a) sets)
    where
      set : (o : Option (List Event)) → Sets Gives o old new → IsGivenBy Gives (option_or o (last_said (arguments_if n) ss)) new
      set (Some arguments) h = h
      set None h = subst (IsGivenBy Gives (last_said (arguments_if n) ss)) (sym h) is

  say_behind : (ss : List Attribute) (a : Attribute) (old new : Attributes) → Say t named ss old → Adds t named a old new → Say t named (ss ++ a ∷ []) new
  say_behind ss a old new say adds = record {
    size = said_behind (GivesNumber t named) name.Size ss a old.size new.size say.size adds.size;
    align = said_behind (GivesNumber t named) name.Align ss a old.align new.align say.align adds.align;
    group = said_behind (GivesNumber t named) name.Group ss a old.group new.group say.group adds.group;
    binding = said_behind (GivesNumber t named) name.Binding ss a old.binding new.binding say.binding adds.binding;
    id = said_behind (GivesNumber t named) name.Id ss a old.id new.id say.id adds.id;
    workgroup_size = said_behind (GiveExtents t named) name.WorkgroupSize ss a old.workgroup_size new.workgroup_size say.workgroup_size adds.workgroup_size;
    stage_said = last_behind stage_by ss a ∙ (ap (option_or (stage_by a)) say.stage_said ∙ sym adds.stage);
  }

-- what is read of the attributes in front of the events that are left
pub record ReadSoFar (t : Text) (named : List ℕ → Option Meaning) (whole events : List Event) (a : Attributes) : Type 0 where
  pub read : List Attribute
  pub back : (others : List Attribute) → InFront t events others → InFront t whole (read ++ others)
  pub say : Say t named read a

pub none_read_yet : (t : Text) (named : List ℕ → Option Meaning) (whole : List Event) (a : Attributes) → Say t named [] a → ReadSoFar t named whole whole a
none_read_yet t named whole a say = record { read = []; back = λ others h. h; say = say }

module _ (t : Text) (named : List ℕ → Option Meaning) (whole events : List Event) (a : Attributes) (h : ReadSoFar t named whole events a) where
  pub one_more_read : (front rest : List Event) (b : Attributes) → attribute_len events ≢ 0 → front ≡ take (attribute_len events) events
      → rest ≡ drop (attribute_len events) events → Adds t named (attribute_of t front) a b → ReadSoFar t named whole rest b
  one_more_read front rest b some cut left added =
      let x = attribute_of t (take (attribute_len events) events) in
      record {
        read = h.read ++ x ∷ [];
        back = λ others there. subst (λ ss. InFront t whole ss) (sym (append_one h.read x others)) (h.back (x ∷ others) (one_more some (subst (λ es. InFront t es others) left there)));
        say = say_behind t named h.read x a b h.say (subst (λ es. Adds t named (attribute_of t es) a b) cut added);
      }
    where
      append_one : (xs : List Attribute) (x : Attribute) (ys : List Attribute) → (xs ++ x ∷ []) ++ ys ≡ xs ++ x ∷ ys
      append_one [] x ys = refl
      append_one (y ∷ xs) x ys = ap (λ zs. y ∷ zs) (append_one xs x ys)

  pub all_read_now : attribute_len events ≡ 0 → AreRead t named whole a
  all_read_now none = record { attributes = h.read; there = subst (λ ss. InFront t whole ss) (append-nil h.read) (h.back [] (no_more none)); say = h.say }
