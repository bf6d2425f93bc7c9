-- The tools that a list names: their tags, joined by commas.
use Rattle.std.specs.Prelude.{◌==◌, ◌+◌, ◌&&◌, ◌++◌, ℕ, Bool, true, not, List, [], ◌∷◌, length, Option, Some, None, if◌then◌else◌, nat_lt}
use Rattle.std.specs.List.{list_all, slice_split}
use Rattle.form_words.specs.Line.{Text, has_text}

-- the tags of a list, between its commas
abbrev pub tags_of : Text → List Text
tags_of text = slice_split (λ b. b == 44) text

-- a tag that isn't empty and that a tool has
abbrev pub is_tag : List Text → Text → Bool
is_tag tags named = nat_lt 0 (length named) && has_text tags named

-- no text stands twice
unfoldable pub are_apart : List Text → Bool
are_apart [] = true
are_apart (t ∷ ts) = not (has_text ts t) && are_apart ts

-- a tool is named by its tag where no tool before it has this tag
abbrev pub is_named : List Text → List Text → Text → Bool
is_named named before tag = has_text named tag && not (has_text before tag)

-- the places, from p on, of the tools with these tags that are named
unfoldable pub places_from : ℕ → List Text → List Text → List Text → List ℕ
places_from p named before [] = []
places_from p named before (t ∷ ts) =
    if is_named named before t then p ∷ places_from (p + 1) named (before ++ t ∷ []) ts
    else places_from (p + 1) named (before ++ t ∷ []) ts

-- the places of the named tools, rising
abbrev pub places_of : List Text → List Text → List ℕ
places_of tags named = places_from 0 named [] tags

-- the same of names that are all tags of tools, and of which none stands twice
abbrev pub chosen_by : List Text → List Text → Option (List ℕ)
chosen_by tags named = if list_all (is_tag tags) named && are_apart named then Some (places_of tags named) else None

-- the places of the tools that a list names; none where no list is given
abbrev pub chosen_if_given : List Text → Option Text → Option (List ℕ)
chosen_if_given tags None = Some []
chosen_if_given tags (Some text) = chosen_by tags (tags_of text)
