-- A layout that is held has one network.
use Rattle.std.proofs.Common.{◌≡◌, ℕ, Some, Ok, List}
use Rattle.outside.specs.Files.{Files}
use Rattle.layout.specs.declared.lines.Layout.{Layout}
use Rattle.run_endings.specs.Endings.{IsJudged}

pub same_network : (name : List ℕ) (files : Files) (a b : Layout) → IsJudged name (Some files) (Ok a) → IsJudged name (Some files) (Ok b) → a ≡ b
same_network name files a b one two = cc
