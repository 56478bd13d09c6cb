pub mod Confluent
