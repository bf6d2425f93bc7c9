-- Whatever was loaded, there are contents of which it was loaded.
use Rattle.std.proofs.Common.{◌≡◌, ◌<◌, ◌+◌, ℕ, List, length, replicate, Option, Some, None, IfSome, refl, arith}
use Rattle.std.proofs.lemmas.List.{length-replicate}
use Rattle.desk_io.specs.Files.{Files, content}
use Rattle.line_words.specs.Limits.{most_file_bytes}
use Rattle.run_base.specs.Loading.{IsLoaded, IsLoadedIfNamed}
use Rattle.run_base.specs.Worlds.{NamesValue, AreLoaded, AreLoadedFrom, content_if_named, world_of}
use Rattle.run_base.specs.declared.inputs.Inputs.{Inputs}
use Rattle.run_base.specs.declared.loading.Loaded.{Loaded}
use Rattle.run_base.specs.declared.loading.Loaded.TheVariants.{TooLong, Bytes}

-- there are contents of any length
longer : (n : ℕ) → (content : List ℕ) × (n < length content)
longer n = (replicate (n + 1) 0, omega (arith, length-replicate {A = ℕ} (n + 1) 0))

some_content : (loaded : Loaded) → (content : List ℕ) × IsLoaded loaded content
some_content TooLong = longer most_file_bytes
some_content (Bytes bytes) = (bytes.items, refl)

some_content_if_named : (loaded : Option Loaded) → (content : Option (List ℕ)) × IsLoadedIfNamed loaded content
some_content_if_named None = (None, tt)
some_content_if_named (Some loaded) = let found = some_content loaded in (Some found.0, found.1)

-- what was loaded of each file was loaded of one world, which is that of the files where these are told
pub loaded_from : (files : Option Files) (names : NamesValue) (inputs : Inputs) → IfSome files (λ all. IsLoadedIfNamed inputs.tgff (content_if_named all names.tgff))
    → IfSome files (λ all. IsLoaded inputs.arch (content all names.arch)) → IfSome files (λ all. IsLoadedIfNamed inputs.third (content_if_named all names.third)) → AreLoadedFrom files names inputs
loaded_from None names inputs t a g =
    let tgff = some_content_if_named inputs.tgff in
    let arch = some_content inputs.arch in
    let third = some_content_if_named inputs.third in
    record {
      world = record { tgff = tgff.0; arch = arch.0; third = third.0 };
      found = tt;
      loaded = record { tgff = tgff.1; arch = arch.1; third = third.1 };
    }
loaded_from (Some all) names inputs t a g = record {
  world = world_of all names;
  found = refl;
  loaded = record { tgff = t; arch = a; third = g };
}
