-- What a service is asked to do.
use Rattle.std.specs.Prelude.{ℕ, List}
use Rattle.node_files.specs.declared.post.Post.{Post}

-- the name of a configuration file, and what is to be served
pub record Order : Type 0 where
  pub config : List ℕ
  pub post : Post

abbrev pub order_of : List ℕ → ℕ → ℕ → Order
order_of config port connections = record { config = config; post = record { port = port; connections = connections } }
