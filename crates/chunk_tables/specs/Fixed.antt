-- Names that are printed without being chosen. Assumes nothing.
use Rattle.std.specs.Prelude.{cond, ◌||◌, List, [], ◌∷◌, ◌++◌, is_some, codes}
use Rattle.chunk_tables.specs.declared.format.Format.{Format}
use Rattle.chunk_tables.specs.declared.format.Format.TheVariants.{Esm, Cjs, Iife, Umd}
use Rattle.chunk_tables.specs.Model.{Name, Module}

-- what the host of a format hands to a script, and bodies of modules are printed with
abbrev pub format_names : Format → List Name
format_names Esm = []
format_names Cjs = codes "require" ∷ codes "__filename" ∷ codes "__dirname" ∷ []
format_names Iife = []
format_names Umd = []

-- the names in a module's body that the bundler wrote there, and that mean something outside of the chunk
abbrev pub fixed_names : Format → Module → List Name
fixed_names f M =
    cond M.dynamic_import (codes "Promise" ∷ codes "Object" ∷ []) []
    ++ (cond M.file_url (codes "URL" ∷ []) [] ++ format_names f)

-- what the function around a wrapped module hands to its body by place: `module` comes behind `exports`, and what `this` is
-- printed as behind both
abbrev pub wrapper_parameters : Module → List Name
wrapper_parameters M =
    cond (is_some M.this || M.uses_module) (codes "exports" ∷ codes "module" ∷ [])
    (cond M.uses_either (codes "exports" ∷ []) [])
