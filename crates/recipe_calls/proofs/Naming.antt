-- Laws of a word's lowest byte, of the step that a word names, and of how many steps words name. Assumes nothing.
--     low         the byte by its place, and as a remainder
--     named_by    the step of a word, from what its bytes name
--     first_few   no more steps than an array holds
use Prim.Native.Nat.{ℕ, ◌%◌, ◌≤◌}
use mathlib.Core.Path.{◌≡◌, refl, sym, ap, ◌∙◌}
use mathlib.Core.List.{List}
use native.Mathlib.Nat.{div-one}
use native.Mathlib.Omega.{arith}
use lib.ListN.{take, length, length-map, length-take}
use lib.Seq.{take_all}
use Rattle.std.specs.Prelude.{Option, Some, None, option_and_then}
use Rattle.step.specs.Run.{array_slots}
use Rattle.step.specs.Operations.{operation_at}
use Rattle.step.specs.declared.forms.Form.{Form}
use Rattle.step.specs.declared.forms.Operation.{Operation}
use Rattle.alu.specs.declared.types.Size.{Size}
use Rattle.calls.specs.Packed.{size_of}
use Rattle.recipe_calls.specs.Words.{byte_radix, byte_of, source_at, made_of, named, step_of, first_of, ◌>>=◌}

pub low : (w : ℕ) → byte_of 0 w ≡ w % byte_radix
low w = ap (λ x. x % byte_radix) (div-one w)

-- a form of a source, and what comes of the form
chained : {A B C : Type 0} (o : Option A) (f : A → Option B) (g : B → Option C) → option_and_then (λ a. option_and_then g (f a)) o ≡ option_and_then g (option_and_then f o)
chained None f g = refl
chained (Some a) f g = refl

pub named_by :
    (word : ℕ) (operation : Operation) (form : Form) (size : Size) →
    operation_at (byte_of 0 word) ≡ Some operation →
    option_and_then (λ s. made_of operation s (byte_of 4 word)) (source_at (byte_of 2 word) (byte_of 3 word)) ≡ Some form →
    size_of (byte_of 1 word) ≡ Some size → Some (record { size = size; form = form; line = 0 }) ≡ named word
unfolding named
named_by word operation form size o f s =
    sym
    (rw o
    (chained (source_at (byte_of 2 word) (byte_of 3 word)) (λ s. made_of operation s (byte_of 4 word)) (λ form. size_of (byte_of 1 word) >>= (λ size. Some (record { size = size; form = form; line = 0 })))
    ∙ rw (f, s) refl))

pub first_few : (words : List ℕ) → take array_slots (first_of words) ≡ first_of words
first_few words =
    let few : length (first_of words) ≤ array_slots = omega (arith, length-map (take array_slots words) step_of, length-take array_slots words) in
    take_all array_slots (first_of words) few
