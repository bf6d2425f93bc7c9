-- The order that a genotype gives the designs, and the first valid one in it.
use Rattle.std.specs.Prelude.{◌≡◌, ◌≢◌, ℕ, ◌<◌, Bool, false, ◌⊎◌, List, length, slice_index_or, replicate}
use Rattle.spec_model.specs.Spec.{SpecValue, Bits, design_variables}
use Rattle.spec_model.specs.Rules.{IsValid}

-- how early a variable stands, and which value it has first
pub record GeneValue : Type 0 where
  pub priority : ℕ
  pub phase : Bool

-- the gene of a variable that isn't named
abbrev pub plain_gene : GeneValue
plain_gene = record { priority = 0; phase = false }

abbrev pub gene_at : List GeneValue → ℕ → GeneValue
gene_at genes v = slice_index_or genes v plain_gene

-- the natural genotype of n variables
abbrev pub natural : ℕ → List GeneValue
natural n = replicate n plain_gene

-- variable v stands before w: it has the higher priority, or the same one and the lower number
abbrev pub StandsBefore : List GeneValue → ℕ → ℕ → Type 0
StandsBefore genes v w =
    ((gene_at genes w).priority < (gene_at genes v).priority) ⊎ (((gene_at genes v).priority ≡ (gene_at genes w).priority) × (v < w))

-- the design f is before the design g: at the first variable at which they differ f has the phase
pub record IsBefore (genes : List GeneValue) (f g : Bits) : Type 0 where
  pub variable : ℕ
  pub in_range : variable < length genes
  pub phase : f variable ≡ (gene_at genes variable).phase
  pub differ : g variable ≢ f variable
  pub same : (w : ℕ) → w < length genes → StandsBefore genes w variable → f w ≡ g w

-- the same at each variable below n
abbrev pub IsSame : ℕ → Bits → Bits → Type 0
IsSame n f g = (v : ℕ) → v < n → f v ≡ g v

-- the same design: equal at each design variable
abbrev pub IsSameDesign : SpecValue → Bits → Bits → Type 0
IsSameDesign s f g = IsSame (design_variables s) f g

-- the first among those that meet a condition: it meets it, and each other that does is the same below n or after it
pub record IsFirstAmong (P : Bits → Type 0) (n : ℕ) (genes : List GeneValue) (f : Bits) : Type 0 where
  pub meets : P f
  pub first : (g : Bits) → P g → IsSame n f g ⊎ IsBefore genes f g

-- the first valid design
abbrev pub IsFirstValid : SpecValue → List GeneValue → Bits → Type 0
IsFirstValid s genes f = IsFirstAmong (IsValid s) (design_variables s) genes f

-- no design is valid
abbrev pub HasNoValid : SpecValue → Type 0
HasNoValid s = (f : Bits) → ¬ IsValid s f
