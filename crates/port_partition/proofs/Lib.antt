pub mod GuardsLater
