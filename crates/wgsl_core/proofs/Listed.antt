-- Lists of texts.
use Rattle.std.proofs.Common.{◌≡◌, ℕ, List, [], ◌∷◌, ◌++◌, Option, Some, None, map, codes, flat_map, refl, ap, append-nil, append_assoc}
use Rattle.wgsl_rules.specs.types.Signatures.{listed, Parameter, parameter_text, template_text}

rest_seen : {A B : Type 0} (text : B → List ℕ) (seen : A → B) (xs : List A) → flat_map (λ x. codes ", " ++ text (seen x)) xs ≡ flat_map (λ y. codes ", " ++ text y) (map seen xs)
rest_seen text seen [] = refl
rest_seen text seen (x ∷ xs) = ap (λ ys. (codes ", " ++ text (seen x)) ++ ys) (rest_seen text seen xs)

-- listing items is listing their views
pub listed_seen : {A B : Type 0} (text : B → List ℕ) (seen : A → B) (xs : List A) → listed (λ x. text (seen x)) xs ≡ listed text (map seen xs)
listed_seen text seen [] = refl
listed_seen text seen (x ∷ xs) = ap (λ ys. text (seen x) ++ ys) (rest_seen text seen xs)

-- the texts of a call without and with a template
pub without_template : (name arguments : List ℕ) (o : Option (List Parameter)) → o ≡ None → name ++ (codes "(" ++ (arguments ++ codes ")")) ≡ name ++ template_text o ++ codes "(" ++ arguments ++ codes ")"
without_template name arguments o e = rw e (simp (append-nil, append_assoc))

pub with_template : (name arguments : List ℕ) (o : Option (List Parameter)) (ps : List Parameter) → o ≡ Some ps → name ++ (codes "<" ++ (listed parameter_text ps ++ (codes ">" ++ (codes "(" ++ (arguments ++ codes ")"))))) ≡ name ++ template_text o ++ codes "(" ++ arguments ++ codes ")"
with_template name arguments o ps e = rw e (simp append_assoc)

-- a text written piece by piece, with two or three values in it
pub two_placed : (a x b y c : List ℕ) → a ++ (x ++ (b ++ (y ++ c))) ≡ a ++ x ++ b ++ y ++ c
two_placed a x b y c = simp append_assoc

pub three_placed : (a x b y c z d : List ℕ) → a ++ (x ++ (b ++ (y ++ (c ++ (z ++ d))))) ≡ a ++ x ++ b ++ y ++ c ++ z ++ d
three_placed a x b y c z d = simp append_assoc
