-- Values before that become those now where they lie.
use Rattle.std.proofs.Common.{◌≡◌, ℕ, zero, suc, ◌+◌, ◌≤◌, true, ◌&&◌, List, []}
use Rattle.std.proofs.Common.{◌∷◌, ◌++◌, length, map, take, drop, Some, pos, refl, sym, ap, ◌∙◌, arith}
use Rattle.std.specs.Prelude.{◌==◌, is_some, option_map, slice_get, slice_set, unwrap_or}
use Rattle.bl_tree.specs.declared.value.Value.{Value, out-Value, roll-Value, roll-out-Value}
use Rattle.bl_tree.specs.declared.value.Value.TheOpen.{Value-F}
use Rattle.bl_tree.specs.declared.value.Value.TheVariants.{Number, rolls-Number}
use Rattle.bl_eval.specs.Values.{number_at}
use Rattle.bl_ctree.specs.Store.{Frame, aged}
use Rattle.bl_ctree_store.specs.declared.frame.Frame.{Frame as FrameNode}
use Rattle.bl_ctree_store.specs.Ageing.{are_numbers, are_plain, as_number, is_plain}
use Rattle.bl_ctree_store.specs.Seen.{frame_of, store_of}
use Rattle.std.proofs.lemmas.Option.{slice_get-map}
use Rattle.std.proofs.lemmas.Bool.{and_parts}

number_level : (level : Value-F Value) (v : Value) → out-Value v ≡ level → is_some (number_at level) ≡ true → as_number v ≡ v
number_level (Value-F.Number n) v is holds =
    ap (λ level. Number (unwrap_or (number_at level) (pos 0))) is ∙ sym (rolls-Number n) ∙ ap roll-Value (sym is) ∙ roll-out-Value v
number_level (Value-F.Parts all) v is holds = absurd cc

pub numbers_same : (vs : List Value) → are_numbers vs ≡ true → map as_number vs ≡ vs
numbers_same [] holds = refl
numbers_same (v ∷ vs) holds =
    let all = and_parts (is_some (number_at (out-Value v))) (are_numbers vs) holds in
    ap (λ w. w ∷ map as_number vs) (number_level (out-Value v) v refl all.0) ∙ ap (λ ws. v ∷ ws) (numbers_same vs all.1)

-- one more of the first elements is that of others, as a function makes it
pub made_next : {A B : Type 0} (f : A → B) (others : List A) (values : List B) (k : ℕ) (x : A) (y : B) → length others ≤ length values
    → slice_get others k ≡ Some x → y ≡ f x
    → slice_set (map f (take k others) ++ drop k values) k y ≡ map f (take (k + 1) others) ++ drop (k + 1) values
made_next f [] values k x y fits here is = absurd cc
made_next f (o ∷ others) [] k x y fits here is = absurd (omega arith)
made_next f (o ∷ others) (v ∷ values) zero x y fits here is =
    let same : o ≡ x = cc in ap (λ z. z ∷ values) (is ∙ ap f (sym same))
made_next f (o ∷ others) (v ∷ values) (suc k) x y fits here is =
    (ap (λ rest. f o ∷ rest) (made_next f others values k x y (omega arith) here is))
    ∙ (let more : suc k + 1 ≡ suc (k + 1) = omega arith in sym (ap (λ n. map f (take n (o ∷ others)) ++ drop n (v ∷ values)) more))

-- a frame among those that are plain is so
pub plain_at : (frames : List Frame) (k : ℕ) (f : Frame) → are_plain frames ≡ true → slice_get frames k ≡ Some f → is_plain f ≡ true
plain_at [] k f holds here = absurd cc
plain_at (g ∷ frames) zero f holds here =
    let same : g ≡ f = cc in ap is_plain (sym same) ∙ (and_parts (is_plain g) (are_plain frames) holds).0
plain_at (g ∷ frames) (suc k) f holds here = plain_at frames k f (and_parts (is_plain g) (are_plain frames) holds).1 here

-- what is asked of a frame that becomes older
pub plain_same : (f : Frame) → is_plain f ≡ true → map as_number f.now ≡ f.now
plain_same f holds = numbers_same f.now (and_parts (length f.before == length f.now) (are_numbers f.now) holds).1

-- an element behind the first ones, which alone are changed
pub get_rest : {A : Type 0} (f : A → A) (xs : List A) (k : ℕ) → slice_get (map f (take k xs) ++ drop k xs) k ≡ slice_get xs k
get_rest f [] zero = refl
get_rest f [] (suc k) = refl
get_rest f (x ∷ xs) zero = refl
get_rest f (x ∷ xs) (suc k) = get_rest f xs k

pub many_set : {A : Type 0} (xs : List A) (k : ℕ) (x : A) → length (slice_set xs k x) ≡ length xs
many_set [] k x = refl
many_set (y ∷ xs) zero x = refl
many_set (y ∷ xs) (suc k) x = ap suc (many_set xs k x)

-- a frame that is not older yet
pub aged_here : (first now : List FrameNode) (k : ℕ) (f : FrameNode)
    → store_of now ≡ map aged (take k (store_of first)) ++ drop k (store_of first) → slice_get now k ≡ Some f
    → slice_get (store_of first) k ≡ Some (frame_of f)
aged_here first now k f is here =
    sym (get_rest aged (store_of first) k) ∙ ap (λ frames. slice_get frames k) (sym is) ∙ slice_get-map frame_of now k ∙ ap (option_map frame_of) here
