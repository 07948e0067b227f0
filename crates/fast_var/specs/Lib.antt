pub mod FastVar
